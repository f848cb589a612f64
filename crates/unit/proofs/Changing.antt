-- Set date and take up change what the model's steps change. Assumes nothing.
use Rattle.std.proofs.Common.{◌≡◌, ℕ, cond, ◌<◌, true, false, [], length, is_err, Some, None, Ok, Err, Option, Result, sym, refl, ap, ◌∙◌, subst}
use Rattle.std.proofs.lemmas.Bool.{cond-false, cond-true, ne_eqb}
use Rattle.refusal.specs.declared.Refusal.{Refusal}
use Rattle.refusal.specs.declared.Refusal.TheVariants.{OutOfRange}
use Rattle.blocks.specs.Devices.{Device, block_at, size_of}
use Rattle.entry.specs.Dates.{is_day}
use Rattle.entry.specs.declared.date.Date.{Date}
use Rattle.entry.specs.declared.stamp.Stamp.{Stamp}
use Rattle.directory.specs.Judgements.{judged}
use Rattle.directory.specs.declared.judgement.Pack.{Pack}
use Rattle.model.specs.Models.{Model, free_table, model_of, pack_found}
use Rattle.model.specs.Represents.{Decided, Turn, Turns}
use Rattle.model.specs.Requests.{Reply, set_date, take_up}
use Rattle.model.specs.Steps.{Step, done_step, dated_model, refused_step, set_date_step, take_up_step, taken_up, unless, work_stage}
use Rattle.model.specs.declared.state.State.{State}
use Rattle.unit.specs.Calls.{done, pack_taken, state_taken, state_unless}
use Rattle.model.proofs.Laying.{laid_on}

-- the step of a take up is what the code does
module _ (st : State) (d : Device) (wide : (b : ℕ) → b < size_of d → length (block_at d b) ≡ 1024) (work : ℕ) where
  abbrev answered : Option Refusal → Result Pack Refusal → Reply
  answered None (Ok pack) = done (Ok tt)
  answered None (Err refusal) = done (Err refusal)
  answered (Some refusal) reply = done (Err refusal)

  taken-reply : (w : Option Refusal) (j : Result Pack Refusal) → answered w j ≡ (unless w (model_of st d) [] (taken_up (model_of st d) (pack_found d j))).reply
  taken-reply None (Ok pack) = refl
  taken-reply None (Err refusal) = refl
  taken-reply (Some refusal) j = refl

  taken-model : (w : Option Refusal) (j : Result Pack Refusal) → judged d 1024 ≡ j
      → (unless w (model_of st d) [] (taken_up (model_of st d) (pack_found d j))).model ≡ model_of (state_unless w st (pack_taken j)) d
  taken-model None (Ok pack) is = sym (ap packed is)
    where
      packed : Result Pack Refusal → Model
      packed j = record { date = (model_of st d).date; size = (model_of st d).size; marks = d.marks; tab = d.tab; up = true; pack = pack_found d j; opened = free_table }
  taken-model None (Err refusal) is = refl
  taken-model (Some refusal) j is = refl

  taken-judged : (w : Option Refusal) (j : Result Pack Refusal) → judged d 1024 ≡ j → ((pack : Pack) → st.pack ≡ Some pack → judged d 1024 ≡ Ok pack)
      → (pack : Pack) → (state_unless w st (pack_taken j)).pack ≡ Some pack → judged d 1024 ≡ Ok pack
  taken-judged None (Ok taken) is old pack up = cc
  taken-judged None (Err refusal) is old pack up = cc
  taken-judged (Some refusal) j is old pack up = old pack up

  pub take-up-decided : (reply : Reply) (st' : State) → reply ≡ answered (work_stage work) (judged d 1024) → st' ≡ state_taken st work (judged d 1024)
      → Decided st d (take_up work) reply st' d
  take-up-decided reply st' told is = record {
    replied = told ∙ taken-reply (work_stage work) (judged d 1024);
    represents = λ granted. record {
      model = taken-model (work_stage work) (judged d 1024) refl ∙ ap (λ s. model_of s d) (sym is);
      judged = subst (λ (s : State). (pack : Pack) → s.pack ≡ Some pack → judged d 1024 ≡ Ok pack) (sym is) (by (work_stage work) (ap (λ (r : Reply). is_err r.answer) (sym told) ∙ granted));
    };
    refused = λ _. refl;
  }
    where
      by : (w : Option Refusal) → is_err (answered w (judged d 1024)).answer ≡ false → (pack : Pack) → (state_unless w st (pack_taken (judged d 1024))).pack ≡ Some pack → judged d 1024 ≡ Ok pack
      by None h = go (judged d 1024) refl
        where
          go : (j : Result Pack Refusal) → judged d 1024 ≡ j → (pack : Pack) → pack_taken j ≡ Some pack → judged d 1024 ≡ Ok pack
          go (Ok taken) e pack up = cc
          go (Err refusal) e pack up = cc
      by (Some refusal) h = cc

  pub take-up-turn : (reply : Reply) (st' : State) → reply ≡ answered (work_stage work) (judged d 1024) → st' ≡ state_taken st work (judged d 1024)
      → Turns st d (take_up work) reply st' d
  take-up-turn reply st' told is m rep = subst (λ m. Turn m (take_up work) d reply st' d) (sym rep.model) (record {
    replied = told ∙ taken-reply (work_stage work) (judged d 1024);
    represents = record {
      model = taken-model (work_stage work) (judged d 1024) refl ∙ ap (λ s. model_of s d) (sym is);
      judged = subst (λ (s : State). (pack : Pack) → s.pack ≡ Some pack → judged d 1024 ≡ Ok pack) (sym is) (taken-judged (work_stage work) (judged d 1024) refl rep.judged);
    };
    refused = λ _. refl;
    bytes = λ _. laid_on d wide (take_up_step (model_of st d) work).model (ap (λ (m : Model). m.pack) (taken-model (work_stage work) (judged d 1024) refl));
  })

  -- the work block was right, and the pack was judged
  pub record TakenUp (reply : Reply) (st' : State) : Type 0 where
    pub decided : Decided st d (take_up work) reply st' d
    pub turn : Turns st d (take_up work) reply st' d
    pub state : st' ≡ state_taken st work (judged d 1024)

  pub taken-up : work ≡ 1024 → (j : Result Pack Refusal) (reply : Reply) (st' : State) → j ≡ judged d 1024 → reply ≡ answered None j
      → st' ≡ state_unless None st (pack_taken j) → TakenUp reply st'
  taken-up full j reply st' is told made =
      let none : work_stage work ≡ None = ap work_stage full in
      let reply-is = told ∙ ap (answered None) is ∙ ap (λ w. answered w (judged d 1024)) (sym none) in
      let state-is = made ∙ ap (λ j. state_unless None st (pack_taken j)) is ∙ ap (λ w. state_unless w st (pack_taken (judged d 1024))) (sym none) in
      record { decided = take-up-decided reply st' reply-is state-is; turn = take-up-turn reply st' reply-is state-is; state = state-is }

  -- the work block was wrong
  pub not_taken : (work ≡ 1024 → ⊥) → (reply : Reply) → reply ≡ done (Err OutOfRange) → TakenUp reply st
  not_taken other reply told =
      let some : work_stage work ≡ Some OutOfRange = ap (λ t. cond t None (Some OutOfRange)) (ne_eqb work 1024 other) in
      let reply-is = told ∙ ap (λ w. answered w (judged d 1024)) (sym some) in
      let state-is : st ≡ state_taken st work (judged d 1024) = ap (λ w. state_unless w st (pack_taken (judged d 1024))) (sym some) in
      record { decided = take-up-decided reply st reply-is state-is; turn = take-up-turn reply st reply-is state-is; state = state-is }

-- set date
pub dated-turn : (st : State) (d : Device) → ((b : ℕ) → b < size_of d → length (block_at d b) ≡ 1024) → (year month day : ℕ) (date : Date) → is_day year month day ≡ true
    → date.year ≡ year → date.month ≡ month → date.day ≡ day → Turns st d (set_date year month day) (done (Ok tt)) (record { pack = st.pack; date = Some date; table = st.table }) d
dated-turn st d wide year month day date real y mo da m rep =
    let st' : State = record { pack = st.pack; date = Some date; table = st.table } in
    let stamp : Stamp = record { year = year; month = month; day = day } in
    let made : set_date_step (model_of st d) year month day ≡ done_step (dated_model (model_of st d) stamp) = cond-true (is_day year month day) _ _ real in
    let model : (set_date_step (model_of st d) year month day).model ≡ model_of st' d =
    ap (λ (s : Step). s.model) made ∙ ap (dated_model (model_of st d)) (λ i. record { year = sym y i; month = sym mo i; day = sym da i }) in
    subst (λ m. Turn m (set_date year month day) d (done (Ok tt)) st' d) (sym rep.model) (record {
      replied = sym (ap (λ (s : Step). s.reply) made);
      represents = record { model = model; judged = rep.judged };
      refused = λ h. refl;
      bytes = λ _. laid_on d wide (set_date_step (model_of st d) year month day).model (ap (λ (m : Model). m.pack) model);
    })

pub undated-turn : (st : State) (d : Device) → ((b : ℕ) → b < size_of d → length (block_at d b) ≡ 1024) → (year month day : ℕ) (refusal : Refusal) → is_day year month day ≡ false → refusal ≡ OutOfRange
    → Turns st d (set_date year month day) (done (Err refusal)) st d
undated-turn st d wide year month day refusal unreal is m rep =
    let made : set_date_step (model_of st d) year month day ≡ refused_step (model_of st d) [] OutOfRange = cond-false (is_day year month day) _ _ unreal in
    subst (λ m. Turn m (set_date year month day) d (done (Err refusal)) st d) (sym rep.model) (record {
      replied = ap (λ r. done (Err r)) is ∙ sym (ap (λ (s : Step). s.reply) made);
      represents = record { model = ap (λ (s : Step). s.model) made; judged = rep.judged };
      refused = λ h. refl;
      bytes = λ _. laid_on d wide (set_date_step (model_of st d) year month day).model (ap (λ (s : Step). s.model.pack) made);
    })
