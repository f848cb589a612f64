-- Find and show answer as the model's steps do. Assumes nothing.
use Rattle.std.proofs.Common.{◌≡◌, ℕ, ◌+◌, ◌-◌, ◌<◌, ◌≤◌, Bool, true, false, cond, ◌&&◌, eqb, ltb, leb, ◌⊎◌, List, ◌++◌, length, drop, take, is_some, Some, None, Ok, Err, Option, Result, sym, refl, ap, ◌∙◌, subst, ap₂, inl, inr, arith}
use Rattle.std.proofs.lemmas.Bool.{and_cases, and_parts, le-leb, leb-false, leb-true, lt-leb, ltb-false, ltb-true, ne_eqb, true≢false}
use Rattle.std.proofs.lemmas.List.{take-append-drop}
use Rattle.std.specs.Option.{ok_or, option_or}
use Rattle.std.specs.Result.{IsErrAnd}
use Rattle.refusal.specs.declared.Refusal.{Refusal}
use Rattle.refusal.specs.declared.Refusal.TheVariants.{BadName, NoPack, NoSuchFile, OutOfRange}
use Rattle.blocks.specs.Devices.{Device, block_at, size_of}
use Rattle.directory.specs.Entries.{entry_at, entry_or, entry_read}
use Rattle.directory.specs.Judgements.{judged}
use Rattle.directory.specs.Lookups.{is_match, lookup_reply}
use Rattle.directory.specs.declared.judgement.Pack.{Pack}
use Rattle.directory.specs.declared.lookups.Found.{Found}
use Rattle.model.specs.Models.{Model, files_from, model_of, pack_found, pack_on}
use Rattle.model.specs.Represents.{Turn, Turns}
use Rattle.model.specs.Requests.{Reply, Request, find, show}
use Rattle.model.specs.Steps.{buffer_stage, files_of, find_step, first_file, fits_name, is_name, name_stage, pack_stage, show_step, shown_step, step, unless, work_stage}
use Rattle.model.specs.declared.state.NameKind.{NameKind}
use Rattle.model.specs.declared.state.State.{State}
use Rattle.model.proofs.Laying.{laid_on}
use Rattle.model.proofs.Stages.{full}
use Rattle.model.proofs.Reading.{found-file, known, numbered-in, numbered-out, read_none}
use Rattle.unit.specs.Calls.{after, file_found, file_shown, named, number, numbered, pack_asked, read_as, some_file, with_pack}
use Rattle.unit.proofs.Exits.{met}

-- the reply to a call about a file
abbrev pub shown_reply : Result Found Refusal → List ℕ → Reply
shown_reply (Ok file) buffer = record { answer = Ok (Some file.number); buffer = file.entry.bytes ++ drop 26 buffer }
shown_reply (Err refusal) buffer = record { answer = Err refusal; buffer = buffer }

-- what find and show have in common
module _ (m : Model) (buffer : List ℕ) (o : Option Found) where
  shown-some : (r : Result (Option Found) Refusal) → r ≡ Ok o → shown_reply (some_file r) buffer ≡ (shown_step m buffer o).reply
  shown-some r is = ap (λ r. shown_reply (some_file r) buffer) is ∙ go o
    where
      go : (o : Option Found) → shown_reply (some_file (Ok o)) buffer ≡ (shown_step m buffer o).reply
      go None = refl
      go (Some file) = refl

  kept : (s : Option Refusal) → (unless s m buffer (shown_step m buffer o)).model ≡ m
  kept (Some refusal) = refl
  kept None = go o
    where
      go : (o : Option Found) → (shown_step m buffer o).model ≡ m
      go None = refl
      go (Some file) = refl

module _ (st : State) (d : Device) (consistent : (pack : Pack) → st.pack ≡ Some pack → judged d 1024 ≡ Ok pack) (work : ℕ) (buffer : List ℕ) where
  abbrev m : Model
  m = model_of st d

  files-are : (pack : Pack) → st.pack ≡ Some pack → files_of (pack_on d) ≡ files_from d 3 (pack.left - 3)
  files-are pack up = ap (λ r. files_of (pack_found d r)) (consistent pack up)

  -- the stages that find and show share, then what is asked of the pack that is up
  module _ (gate : Bool → Option Refusal) (next : Pack → Result Found Refusal) (o : Option Found) (none : gate false ≡ Some NoPack)
      (each : (pack : Pack) → st.pack ≡ Some pack → work ≡ 1024 → shown_reply (next pack) buffer ≡ (unless (gate true) (model_of st d) buffer (shown_step (model_of st d) buffer o)).reply) where
    by-pack : work ≡ 1024 → (p : Option Pack) → st.pack ≡ p
        → shown_reply (with_pack (ok_or p NoPack) next) buffer ≡ (unless (gate (is_some p)) (model_of st d) buffer (shown_step (model_of st d) buffer o)).reply
    by-pack long None up = ap (λ g. (unless g (model_of st d) buffer (shown_step (model_of st d) buffer o)).reply) (sym none)
    by-pack long (Some pack) up = each pack up long

    by-buffer : work ≡ 1024 → (b : Option Refusal)
        → shown_reply (with_pack (after b (ok_or st.pack NoPack)) next) buffer ≡ (unless (option_or b (gate (is_some st.pack))) (model_of st d) buffer (shown_step (model_of st d) buffer o)).reply
    by-buffer long None = by-pack long st.pack refl
    by-buffer long (Some refusal) = refl

    by-work : (w : Option Refusal) → work_stage work ≡ w
        → shown_reply (with_pack (after w (after (buffer_stage buffer) (ok_or st.pack NoPack))) next) buffer
        ≡ (unless (option_or w (option_or (buffer_stage buffer) (gate (is_some st.pack)))) (model_of st d) buffer (shown_step (model_of st d) buffer o)).reply
    by-work None h = by-buffer (full work h) (buffer_stage buffer)
    by-work (Some refusal) h = refl

  module _ (kind : NameKind) (name : List ℕ) where
    abbrev hit : Option Found
    hit = first_file (λ e bytes. is_match (fits_name kind name) bytes) 3 (files_of (pack_on d))

    by_name : (pack : Pack) → st.pack ≡ Some pack → work ≡ 1024 → (t : Bool) → is_name kind name ≡ t
        → shown_reply (some_file (cond t (lookup_reply (fits_name kind name) d pack.directory work) (Err BadName))) buffer ≡ (unless (name_stage t) (model_of st d) buffer (shown_step (model_of st d) buffer hit)).reply
    by_name pack up long true t =
        shown-some (model_of st d) buffer hit (lookup_reply (fits_name kind name) d pack.directory work)
        (ap (lookup_reply (fits_name kind name) d pack.directory) long ∙ found-file d pack (known d pack (consistent pack up)) (fits_name kind name)
        ∙ ap (λ files. Ok (first_file (λ e bytes. is_match (fits_name kind name) bytes) 3 files)) (sym (files-are pack up)))
    by_name pack up long false t = refl

    find-reply : shown_reply (file_found st d work kind name buffer) buffer ≡ (find_step (model_of st d) work kind name buffer).reply
    find-reply =
        by-work (λ up. option_or (pack_stage up) (name_stage (is_name kind name))) (λ pack. some_file (named d kind name work pack)) hit refl
        (λ pack up long. by_name pack up long (is_name kind name) refl) (work_stage work) refl

    find-keeps : (find_step (model_of st d) work kind name buffer).model ≡ model_of st d
    find-keeps = kept (model_of st d) buffer hit _

  module _ (entry : ℕ) where
    abbrev own : Option Found
    own = first_file (λ e bytes. eqb e entry) 3 (files_of (pack_on d))

    by_number : (pack : Pack) → st.pack ≡ Some pack → work ≡ 1024 → (t : Bool) → leb 3 entry && ltb entry pack.left ≡ t
        → shown_reply (cond t (read_as entry (entry_read d entry work)) (Err NoSuchFile)) buffer ≡ (shown_step (model_of st d) buffer own).reply
    by_number pack up long true t =
        let k = known d pack (consistent pack up) in
        let p = and_parts (leb 3 entry) (ltb entry pack.left) t in
        let low = leb-true 3 entry p.0 in
        let high = ltb-true entry pack.left p.1 in
        ap (λ r. shown_reply (read_as entry r) buffer)
        (ap (entry_read d entry) long ∙ ap (entry_or (entry_at d entry)) (read_none d pack k entry (omega (arith, k.within))))
        ∙ ap (λ o. (shown_step (model_of st d) buffer o).reply)
        (sym (ap (first_file (λ e bytes. eqb e entry) 3) (files-are pack up) ∙ numbered-in d entry (pack.left - 3) 3 low (omega (arith, k.from))))
    by_number pack up long false t =
        ap (λ o. (shown_step (model_of st d) buffer o).reply)
        (sym (ap (first_file (λ e bytes. eqb e entry) 3) (files-are pack up) ∙ numbered-out d entry (pack.left - 3) 3 (out (and_cases (leb 3 entry) (ltb entry pack.left) t))))
      where
        out : (leb 3 entry ≡ false) ⊎ (ltb entry pack.left ≡ false) → (entry < 3) ⊎ (3 + (pack.left - 3) ≤ entry)
        out (inl q) = inl (leb-false 3 entry q)
        out (inr q) = inr (omega (arith, ltb-false entry pack.left q, (known d pack (consistent pack up)).from))

    show-reply : shown_reply (file_shown st d work entry buffer) buffer ≡ (show_step (model_of st d) work entry buffer).reply
    show-reply = by-work pack_stage (numbered d entry work) own refl (λ pack up long. by_number pack up long (leb 3 entry && ltb entry pack.left) refl) (work_stage work) refl

    show-keeps : (show_step (model_of st d) work entry buffer).model ≡ model_of st d
    show-keeps = kept (model_of st d) buffer own _

-- a request that shows a file, and how the file is asked of the pack
pub record Asks (st : State) (d : Device) (work : ℕ) (buffer : List ℕ) (request : Request) (next : ℕ → Pack → Result Found Refusal) : Type 0 where
  pub turn : (reply : Reply) → reply ≡ shown_reply (with_pack (pack_asked st work buffer) (next work)) buffer → Turns st d request reply st d

module _ (st : State) (d : Device) (wide : (b : ℕ) → b < size_of d → length (block_at d b) ≡ 1024) (work : ℕ) (buffer : List ℕ) where
  -- its step replies the file, and leaves the model
  asks-by : (request : Request) (next : ℕ → Pack → Result Found Refusal)
      → (((pack : Pack) → st.pack ≡ Some pack → judged d 1024 ≡ Ok pack)
      → (shown_reply (with_pack (pack_asked st work buffer) (next work)) buffer ≡ (step (model_of st d) request).reply) × ((step (model_of st d) request).model ≡ model_of st d))
      → Asks st d work buffer request next
  asks-by request next steps = record {
    turn = λ reply is m rep. let s = steps rep.judged in subst (λ m. Turn m request d reply st d) (sym rep.model) (record {
      replied = is ∙ s.0;
      represents = record { model = s.1; judged = rep.judged };
      refused = λ _. refl;
      bytes = λ _. laid_on d wide (step (model_of st d) request).model (ap (λ (m : Model). m.pack) s.1);
    });
  }

  pub find-asks : (kind : NameKind) (name : List ℕ) → Asks st d work buffer (find work kind name buffer) (λ n pack. some_file (named d kind name n pack))
  find-asks kind name = asks-by _ _ (λ judged. (find-reply st d judged work buffer kind name, find-keeps st d judged work buffer kind name))

  pub show-asks : (entry : ℕ) → Asks st d work buffer (show work entry buffer) (numbered d entry)
  show-asks entry = asks-by _ _ (λ judged. (show-reply st d judged work buffer entry, show-keeps st d judged work buffer entry))

-- what find and show reply, by how they are left
module _ (st : State) (work : ℕ) (buffer : List ℕ) (next : ℕ → Pack → Result Found Refusal) where
  no-work : (work ≡ 1024 → ⊥) → (r : Result ℕ Refusal) → r ≡ Err OutOfRange → number r buffer ≡ shown_reply (with_pack (pack_asked st work buffer) (next work)) buffer
  no-work other r is =
      ap (λ r. number r buffer) is
      ∙ ap (λ t. shown_reply (with_pack (after (cond t None (Some OutOfRange)) (after (buffer_stage buffer) (ok_or st.pack NoPack))) (next work)) buffer) (sym (ne_eqb work 1024 other))

  no-room : work ≡ 1024 → (26 ≤ length buffer → ⊥) → (r : Result ℕ Refusal) → r ≡ Err OutOfRange → number r buffer ≡ shown_reply (with_pack (pack_asked st work buffer) (next work)) buffer
  no-room full short r is =
      ap (λ r. number r buffer) is
      ∙ ap (λ t. shown_reply (with_pack (after (work_stage 1024) (after (cond t None (Some OutOfRange)) (ok_or st.pack NoPack))) (next work)) buffer) (sym (lt-leb 26 (length buffer) (omega (arith, short))))
      ∙ ap (λ n. shown_reply (with_pack (pack_asked st n buffer) (next work)) buffer) (sym full)

  about : work ≡ 1024 → 26 ≤ length buffer → (r : Result Found Refusal) → r ≡ with_pack (ok_or st.pack NoPack) (next 1024) → r ≡ with_pack (pack_asked st work buffer) (next work)
  about full room r is =
      is
      ∙ ap (λ t. with_pack (after (work_stage 1024) (after (cond t None (Some OutOfRange)) (ok_or st.pack NoPack))) (next 1024)) (sym (le-leb 26 (length buffer) room))
      ∙ ap (λ n. with_pack (pack_asked st n buffer) (next n)) (sym full)

-- an option that is none is not some, and `?` leaves with what stands for it
not-some : {X : Type 0} (o : Option X) → o ≡ None → is_some o ≡ true → ⊥
not-some o none some = true≢false (sym some ∙ ap is_some none)

left-by : {X : Type 0} (o : Option X) (x : Refusal) (r : Result ℕ Refusal) → o ≡ None → ◌≡◌ {A = Result X Refusal} (Err x) (ok_or o OutOfRange) → IsErrAnd r (λ y. y ≡ x) → r ≡ Err OutOfRange
left-by o x r none told left = met r x left ∙ ap Err (let h = told ∙ ap (λ o. ok_or o OutOfRange) none in cc)

-- find and show take their turn, by how they are left
module _ {st : State} {d : Device} {work : ℕ} {buffer : List ℕ} {request : Request} {next : ℕ → Pack → Result Found Refusal} (asks : Asks st d work buffer request next) where
  pub left-work : {X : Type 0} {o : Option X} {x : Refusal} (r : Result ℕ Refusal) → (work ≡ 1024 → is_some o ≡ true) → o ≡ None → ◌≡◌ {A = Result X Refusal} (Err x) (ok_or o OutOfRange)
      → IsErrAnd r (λ y. y ≡ x) → Turns st d request (number r buffer) st d
  left-work {o = o} {x = x} r fits none told left = asks.turn (number r buffer) (no-work st work buffer next (λ q. not-some o none (fits q)) r (left-by o x r none told left))

  pub left-front : {X : Type 0} {o : Option X} {x : Refusal} (r : Result ℕ Refusal) → work ≡ 1024 → (26 ≤ length buffer → is_some o ≡ true) → o ≡ None → ◌≡◌ {A = Result X Refusal} (Err x) (ok_or o OutOfRange)
      → IsErrAnd r (λ y. y ≡ x) → Turns st d request (number r buffer) st d
  left-front {o = o} {x = x} r full fits none told left = asks.turn (number r buffer) (no-room st work buffer next full (λ q. not-some o none (fits q)) r (left-by o x r none told left))

  pub left-file : {x : Refusal} (r : Result ℕ Refusal) (front : List ℕ) → work ≡ 1024 → 26 ≤ length buffer → front ≡ take 26 buffer → Err x ≡ with_pack (ok_or st.pack NoPack) (next 1024)
      → IsErrAnd r (λ y. y ≡ x) → Turns st d request (number r (front ++ drop 26 buffer)) st d
  left-file {x = x} r front full room same told left =
      asks.turn (number r (front ++ drop 26 buffer))
      (ap₂ number (met r x left) (ap (λ front. front ++ drop 26 buffer) same ∙ take-append-drop 26 buffer) ∙ ap (λ r. shown_reply r buffer) (about st work buffer next full room (Err x) told))

  pub shown : (file : Found) (front : List ℕ) → work ≡ 1024 → 26 ≤ length buffer → front ≡ file.entry.bytes → Ok file ≡ with_pack (ok_or st.pack NoPack) (next 1024)
      → Turns st d request (number (Ok file.number) (front ++ drop 26 buffer)) st d
  shown file front full room same told =
      asks.turn (number (Ok file.number) (front ++ drop 26 buffer))
      (ap (λ front. record { answer = Ok (Some file.number); buffer = front ++ drop 26 buffer }) same ∙ ap (λ r. shown_reply r buffer) (about st work buffer next full room (Ok file) told))
