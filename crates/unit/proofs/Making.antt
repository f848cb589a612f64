-- A granted initialise: what was tested, and what the device and the state are then. Assumes nothing.
use Rattle.std.proofs.Common.{◌≡◌, ℕ, ◌+◌, ◌-◌, ◌<◌, ◌≤◌, true, false, is_err, length, refl, Err, List, [], ◌∷◌, ◌++◌, replicate, Some, None, Ok, Option, Result, sym, ap, ne_eqb, ◌∙◌, subst, ap₂, arith}
use Rattle.std.specs.Option.{option_map}
use Rattle.refusal.specs.declared.Refusal.{Refusal}
use Rattle.refusal.specs.declared.Refusal.TheVariants.{OutOfRange}
use Rattle.blocks.specs.Devices.{Device, block_at, size_of, write_fault, written}
use Rattle.names.specs.Names.{name_field}
use Rattle.names.proofs.Fields.{field-field}
use Rattle.entry.specs.Fields.{check_bytes, long_bytes}
use Rattle.entry.specs.declared.stamp.Stamp.{Stamp}
use Rattle.directory.specs.declared.judgement.Pack.{Pack}
use Rattle.model.specs.Fresh.{boot_entry, dated, directory_entry, first_block, fresh_known, fresh_pack, initialised, left_entry}
use Rattle.model.specs.Models.{Model, PackModel, free_table, model_of, stamp_of_date}
use Rattle.model.specs.Represents.{Decided, Represents, Turn, Turns}
use Rattle.model.specs.Requests.{Reply, initialise}
use Rattle.model.specs.Steps.{done_step, first_bad, initialise_step, refused_step, unless, up_model}
use Rattle.model.specs.declared.state.OpenFile.{OpenFile}
use Rattle.model.specs.declared.state.State.{State}
use Rattle.model.proofs.Stages.{Facts, facts}
use Rattle.model.proofs.Freshness.{fresh-judged, fresh-pack, size_same, zeroed-long}
use Rattle.unit.specs.Calls.{cleared, done, fresh_state, refusal_on}
use Rattle.unit.proofs.Clearing.{can_write}

-- a name that is held as a field makes the same block
pub same_block : (name field : List ℕ) (directory blocks : ℕ) (date : Option Stamp) → field ≡ name_field name → first_block field directory blocks date ≡ first_block name directory blocks date
same_block name field directory blocks date is =
    ap (λ f. (f ++ ((128 + directory) ∷ (check_bytes ++ (long_bytes blocks ++ (0 ∷ 0 ∷ dated date))))) ++ (boot_entry date ++ (directory_entry directory date ++ (left_entry directory blocks date ++ replicate 920 0))))
    (ap name_field is ∙ field-field name)

module _ (st : State) (d : Device) (work : ℕ) (name : List ℕ) (directory blocks : ℕ) (none : refusal_on d work name directory blocks ≡ None) (small : size_of d ≤ 65535) where
  abbrev date : Option Stamp
  date = option_map stamp_of_date st.date

  abbrev d' : Device
  d' = initialised d name directory blocks (option_map stamp_of_date st.date)

  f : Facts d work name directory blocks
  f = facts st d work name directory blocks none

  made : initialise_step (model_of st d) work name directory blocks ≡ done_step (up_model (model_of st d) (fresh_pack name directory blocks date))
  made = ap (λ o. unless o (model_of st d) [] (done_step (up_model (model_of st d) (fresh_pack name directory blocks date)))) none

  stands : up_model (model_of st d) (fresh_pack name directory blocks date) ≡ model_of (fresh_state st directory blocks) d'
  stands = sym (go (size_same d name directory blocks date f small)
      (fresh-pack d name directory blocks date f small))
    where
      go : {s s' : ℕ} {p p' : Result PackModel Refusal} → s ≡ s' → p ≡ p'
          → ◌≡◌ {A = Model} (record { date = date; size = s; marks = d.marks; tab = d.tab; up = true; pack = p; opened = free_table }) (record { date = date; size = s'; marks = d.marks; tab = d.tab; up = true; pack = p'; opened = free_table })
      go x y = λ i. record { date = date; size = x i; marks = d.marks; tab = d.tab; up = true; pack = y i; opened = free_table }

  represented : Represents (initialise_step (model_of st d) work name directory blocks).model (fresh_state st directory blocks) d'
  represented = record {
    model = ap (λ s. s.model) made ∙ stands;
    judged = λ pack up. fresh-judged d name directory blocks date f small ∙ ap Ok (let same : _ ≡ pack = some_is up in same);
  }
    where
      some_is : {x y : Pack} → Some x ≡ Some y → x ≡ y
      some_is h = cc

  pub initialise-decided : (st' : State) (after : Device) → st' ≡ fresh_state st directory blocks → after ≡ d' → Decided st d (initialise work name directory blocks) (done (Ok tt)) st' after
  initialise-decided st' after s a = record {
    replied = sym (ap (λ s. s.reply) made);
    represents = λ _. subst (λ x. Represents (initialise_step (model_of st d) work name directory blocks).model st' x) (sym a) (subst (λ x. Represents (initialise_step (model_of st d) work name directory blocks).model x d') (sym s) represented);
    refused = λ h. cc;
  }

  pub initialise-turn : (st' : State) (after : Device) → st' ≡ fresh_state st directory blocks → after ≡ d' → Turns st d (initialise work name directory blocks) (done (Ok tt)) st' after
  initialise-turn st' after s a m rep = subst (λ m. Turn m (initialise work name directory blocks) d (done (Ok tt)) st' after) (sym rep.model) (record {
    replied = sym (ap (λ s. s.reply) made);
    represents = subst (λ x. Represents (initialise_step (model_of st d) work name directory blocks).model st' x) (sym a) (subst (λ x. Represents (initialise_step (model_of st d) work name directory blocks).model x d') (sym s) represented);
    refused = λ h. cc;
    bytes = λ h. cc;
  })

-- a work block of another length is refused
pub unfit : (d : Device) (work : ℕ) (name : List ℕ) (directory blocks : ℕ) → (work ≡ 1024 → ⊥) → refusal_on d work name directory blocks ≡ Some OutOfRange
unfit d work name directory blocks other = rw (ne_eqb work 1024 other)

-- a refused initialise
module _ (st : State) (d : Device) (wide : (b : ℕ) → b < size_of d → length (block_at d b) ≡ 1024) (work : ℕ) (name : List ℕ) (directory blocks : ℕ) (refusal : Refusal)
    (is : refusal_on d work name directory blocks ≡ Some refusal) where
  refused : initialise_step (model_of st d) work name directory blocks ≡ refused_step (model_of st d) [] refusal
  refused = ap (λ o. unless o (model_of st d) [] (done_step (up_model (model_of st d) (fresh_pack name directory blocks (option_map stamp_of_date st.date))))) is

  pub refused-decided : (reply : Reply) → reply ≡ done (Err refusal) → Decided st d (initialise work name directory blocks) reply st d
  refused-decided reply told = record {
    replied = told ∙ sym (ap (λ s. s.reply) refused);
    represents = λ granted. let never : true ≡ false = sym (ap (λ (r : Reply). is_err r.answer) told) ∙ granted in cc;
    refused = λ _. refl;
  }

  pub refused-turn : (reply : Reply) → reply ≡ done (Err refusal) → Turns st d (initialise work name directory blocks) reply st d
  refused-turn reply told m rep = subst (λ m. Turn m (initialise work name directory blocks) d reply st d) (sym rep.model) (record {
    replied = told ∙ sym (ap (λ s. s.reply) refused);
    represents = record { model = ap (λ s. s.model) refused; judged = rep.judged };
    refused = λ _. refl;
    bytes = λ h. cc;
  })

-- the blocks of the directory can be written, also when some are cleared
pub write-first : (d cleared-d : Device) (work directory blocks : ℕ) (name : List ℕ) → Facts d work name directory blocks → cleared-d ≡ cleared d 2 (directory - 1)
    → write_fault cleared-d 1 1024 ≡ None
write-first d cleared-d work directory blocks name f is =
    can_write cleared-d directory 1 (ap (λ (x : Device). x.tab) is ∙ f.off)
    (let z : size_of cleared-d ≡ size_of d = ap size_of is ∙ zeroed-long (directory - 1) d.blocks 2 in omega (arith, z, f.least, f.most))
    (ap (λ (x : Device). first_bad x.marks 1 directory) is ∙ f.sound) (omega arith) f.some

-- the state and the device, from what was done
pub state-is : (st : State) (pack : Pack) (m n dir blocks : ℕ) (records : List (Option OpenFile)) → pack ≡ fresh_known m n → m ≡ dir → n ≡ blocks → records ≡ free_table
    → ◌≡◌ {A = State} (record { pack = Some pack; date = st.date; table = record { records = records } }) (fresh_state st dir blocks)
state-is st pack m n dir blocks records p q r s = ap₂ (λ pack records. record { pack = Some pack; date = st.date; table = record { records = records } }) (p ∙ ap₂ fresh_known q r) s

pub device-is : (d one two : Device) (name field bytes : List ℕ) (m n dir blocks : ℕ) (date : Option Stamp) → one ≡ cleared d 2 (m - 1) → m ≡ dir → n ≡ blocks → field ≡ name_field name
    → bytes ≡ first_block field m n date → two ≡ written None one 1 bytes → two ≡ initialised d name dir blocks date
device-is d one two name field bytes m n dir blocks date e1 e2 e3 e4 e5 e6 =
    e6 ∙ ap₂ (λ x w. written None x 1 w) (e1 ∙ ap (λ k. cleared d 2 (k - 1)) e2) (e5 ∙ ap₂ (λ k j. first_block field k j date) e2 e3 ∙ same_block name field dir blocks date e4)
