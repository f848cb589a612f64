-- Each call keeps what holds of the pack that is up. Assumes nothing.
use Rattle.std.proofs.Common.{◌≡◌, ℕ, ◌-◌, ◌≤◌, Bool, true, false, cond, eqb, List, [], is_err, Some, None, Ok, Err, Option, Result, sym, refl, ◌∙◌, subst, arith}
use Rattle.std.proofs.lemmas.Bool.{true≢false}
use Rattle.refusal.specs.declared.Refusal.{Refusal}
use Rattle.refusal.specs.declared.Refusal.TheVariants.{OutOfRange}
use Rattle.blocks.specs.Devices.{Device, size_of}
use Rattle.entry.specs.Dates.{is_day}
use Rattle.directory.specs.Judgements.{judged}
use Rattle.directory.specs.Lookups.{is_match}
use Rattle.directory.specs.declared.judgement.Pack.{Pack}
use Rattle.directory.specs.declared.lookups.Found.{Found}
use Rattle.directory.proofs.Verdicts.{judgement-law}
use Rattle.model.specs.Fresh.{fresh_pack, initialised}
use Rattle.model.specs.Models.{Model, PackModel, files_from, model_of, pack_found, pack_on, pack_read}
use Rattle.model.specs.Requests.{Request, find, initialise, set_date, show, take_up}
use Rattle.model.specs.Runs.{Accounts, Origin, Standing, counted, device_after, first_origin, is_refused, opens, origin_after, rooms}
use Rattle.model.specs.Steps.{dated_model, done_step, files_of, find_refusal, first_file, fits_name, initialise_refusal, refused_step, set_date_step, show_refusal, shown_step, step, taken_up, unless, up_model, work_stage}
use Rattle.model.specs.declared.state.State.{State}
use Rattle.model.proofs.Accounting.{accounts}
use Rattle.model.proofs.Freshness.{fresh-accounts}
use Rattle.model.proofs.Stages.{facts}

-- nothing asked, nothing changed
same : (m : Model) (d : Device) (o : Origin) → Standing m d o → Standing m d (counted o 0)
same m d o s = record {
  p = s.p;
  up = s.up;
  pack = s.pack;
  accounts = record {
    balance = omega (arith, s.accounts.balance);
    apart = s.accounts.apart;
    untouched = s.accounts.untouched;
  };
}

-- a model with the same pack up
with-pack : (m m' : Model) (d : Device) (o : Origin) → m'.up ≡ m.up → m'.pack ≡ m.pack → Standing m d o → Standing m' d o
with-pack m m' d o u k s = record { p = s.p; up = u ∙ s.up; pack = k ∙ s.pack; accounts = s.accounts }

shown-keeps : (m : Model) (buffer : List ℕ) (o : Option Refusal) (f : Option Found) → (unless o m buffer (shown_step m buffer f)).model ≡ m
shown-keeps m buffer (Some refusal) f = refl
shown-keeps m buffer None None = refl
shown-keeps m buffer None (Some file) = refl

dated-keeps : (m : Model) (d : Device) (o : Origin) (year month day : ℕ) → Standing m d o → Standing (set_date_step m year month day).model d o
dated-keeps m d o year month day s = go (is_day year month day)
  where
    go : (t : Bool) → Standing (cond t (done_step (dated_model m (record { year = year; month = month; day = day }))) (refused_step m [] OutOfRange)).model d o
    go true = with-pack m (dated_model m (record { year = year; month = month; day = day })) d o refl refl s
    go false = s

taken-keeps : (m : Model) (d : Device) (o : Origin) (w : Option Refusal) (r : Result PackModel Refusal) → m.pack ≡ r → Standing m d o → Standing (unless w m [] (taken_up m r)).model d o
taken-keeps m d o (Some refusal) r is s = s
taken-keeps m d o None (Ok p) is s = record { p = s.p; up = refl; pack = sym is ∙ s.pack; accounts = s.accounts }
taken-keeps m d o None (Err refusal) is s = let never : Ok s.p ≡ Err refusal = sym s.pack ∙ is in cc

-- a granted initialise begins anew
module _ (st : State) (d : Device) (small : size_of d ≤ 65535) (work : ℕ) (name : List ℕ) (directory blocks : ℕ) where
  abbrev m : Model
  m = model_of st d

  abbrev asked : Request
  asked = initialise work name directory blocks

  made : (o : Option Refusal) → initialise_refusal (model_of st d) work name directory blocks ≡ o → is_err (unless o (model_of st d) [] (done_step (up_model (model_of st d) (fresh_pack name directory blocks (model_of st d).date)))).reply.answer ≡ false
      → Standing (unless o (model_of st d) [] (done_step (up_model (model_of st d) (fresh_pack name directory blocks (model_of st d).date)))).model (initialised d name directory blocks (model_of st d).date) (record { device = d; rooms = 0; asked = 0 })
  made (Some refusal) is granted = cc
  made None is granted =
      let f = facts st d work name directory blocks is in
      record {
        p = fresh_pack name directory blocks (model_of st d).date;
        up = refl;
        pack = refl;
        accounts = fresh-accounts d name directory blocks (model_of st d).date f small;
      }

  fresh-stands : is_refused (model_of st d) (initialise work name directory blocks) ≡ false
      → Standing (step (model_of st d) (initialise work name directory blocks)).model (initialised d name directory blocks (model_of st d).date) (record { device = d; rooms = 0; asked = 0 })
  fresh-stands granted = made (initialise_refusal (model_of st d) work name directory blocks) refl granted

  initialise-stands : (o : Origin) (t : Bool) → is_refused (model_of st d) (initialise work name directory blocks) ≡ t
      → (t ≡ true → Standing (step (model_of st d) (initialise work name directory blocks)).model d o)
      → Standing (step (model_of st d) (initialise work name directory blocks)).model (cond t d (initialised d name directory blocks (model_of st d).date)) (cond t o (record { device = d; rooms = 0; asked = 0 }))
  initialise-stands o true is old = old refl
  initialise-stands o false is old = fresh-stands is

refused-keeps : (m effect : Model) (o : Option Refusal) → is_err (unless o m [] (done_step effect)).reply.answer ≡ true → (unless o m [] (done_step effect)).model ≡ m
refused-keeps m effect (Some refusal) h = refl
refused-keeps m effect None h = cc

module _ (st : State) (d : Device) (small : size_of d ≤ 65535) where
  -- each call
  stands_on : (o : Origin) → Standing (model_of st d) d o → (request : Request) → Standing (step (model_of st d) request).model (device_after (model_of st d) d request) (origin_after (model_of st d) d o request)
  stands_on o s (set_date year month day) = same _ d o (dated-keeps (model_of st d) d o year month day s)
  stands_on o s (initialise work name directory blocks) =
      initialise-stands st d small work name directory blocks o (is_refused (model_of st d) (initialise work name directory blocks)) refl
      (λ h. subst (λ m'. Standing m' d o) (sym (refused-keeps (model_of st d) _ (initialise_refusal (model_of st d) work name directory blocks) h)) s)
  stands_on o s (take_up work) = same _ d o (taken-keeps (model_of st d) d o (work_stage work) (pack_on d) refl s)
  stands_on o s (find work kind name buffer) = subst (λ m'. Standing m' d (counted o 0)) (sym (shown-keeps (model_of st d) buffer (find_refusal (model_of st d) work kind name buffer) (first_file (λ e bytes. is_match (fits_name kind name) bytes) 3 (files_of (pack_on d))))) (same (model_of st d) d o s)
  stands_on o s (show work entry buffer) = subst (λ m'. Standing m' d (counted o 0)) (sym (shown-keeps (model_of st d) buffer (show_refusal (model_of st d) work buffer) (first_file (λ e bytes. eqb e entry) 3 (files_of (pack_on d))))) (same (model_of st d) d o s)

  pub step-stands : (m : Model) → m ≡ model_of st d → (o : Origin) → Standing m d o → (request : Request) → Standing (step m request).model (device_after m d request) (origin_after m d o request)
  step-stands m is o s request =
      subst (λ m. Standing (step m request).model (device_after m d request) (origin_after m d o request)) (sym is) (stands_on o (subst (λ m. Standing m d o) is s) request)

  -- a granted take up
  taken-stands : (j : Result Pack Refusal) → judged d 1024 ≡ j → is_err (taken_up (model_of st d) (pack_found d j)).reply.answer ≡ false
      → Standing (taken_up (model_of st d) (pack_found d j)).model d (counted (record { device = d; rooms = rooms (files_of (pack_found d j)); asked = 0 }) 0)
  taken-stands (Err refusal) is granted = cc
  taken-stands (Ok pack) is granted =
      let g = (judgement-law d 1024 (judged d 1024) refl).granted pack is in
      record {
        p = pack_read d pack;
        up = refl;
        pack = refl;
        accounts = subst (λ pack. Accounts (counted (record { device = d; rooms = rooms (files_from d 3 (pack.left - 3)); asked = 0 }) 0) (pack_read d pack) d) (sym g.learnt)
            (accounts d g.follows (counted (record { device = d; rooms = rooms (files_from d 3 (g.follows.left - 3)); asked = 0 }) 0) (omega arith) (λ b out files. refl));
      }

  taken-first : (w : Option Refusal) → is_err (unless w (model_of st d) [] (taken_up (model_of st d) (pack_on d))).reply.answer ≡ false
      → Standing (unless w (model_of st d) [] (taken_up (model_of st d) (pack_on d))).model d (counted (first_origin (model_of st d) d) 0)
  taken-first (Some refusal) granted = cc
  taken-first None granted = taken-stands (judged d 1024) refl granted

  -- a granted first call
  pub first-stands : (request : Request) → opens request ≡ true → is_refused (model_of st d) request ≡ false
      → Standing (step (model_of st d) request).model (device_after (model_of st d) d request) (origin_after (model_of st d) d (first_origin (model_of st d) d) request)
  first-stands (set_date year month day) h granted = cc
  first-stands (initialise work name directory blocks) h granted =
      initialise-stands st d small work name directory blocks (first_origin (model_of st d) d) (is_refused (model_of st d) (initialise work name directory blocks)) refl (λ t. absurd (true≢false (sym t ∙ granted)))
  first-stands (take_up work) h granted = taken-first (work_stage work) granted
  first-stands (find work kind name buffer) h granted = cc
  first-stands (show work entry buffer) h granted = cc
