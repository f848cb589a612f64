-- A run, one call on and at its end. Assumes nothing.
use Rattle.std.proofs.Common.{◌≡◌, ◌≤◌, true, false, ◌⊎◌, List, [], ◌∷◌, ◌++◌, is_some, is_err, Some, None, Option, sym, refl, ap, ◌∙◌, subst, ap₂, inl, inr, append_assoc, append-nil}
use Rattle.std.proofs.lemmas.Bool.{true≢false}
use Rattle.blocks.specs.Devices.{Device, size_of}
use Rattle.directory.specs.Judgements.{judged}
use Rattle.directory.specs.Layouts.{Follows}
use Rattle.directory.specs.declared.judgement.Pack.{Pack}
use Rattle.directory.proofs.Verdicts.{judgement-law}
use Rattle.model.specs.Models.{Model, model_of}
use Rattle.model.specs.Represents.{Represents}
use Rattle.model.specs.Requests.{Reply, Request}
use Rattle.model.specs.Runs.{Origin, Standing, answers, device_after, first_origin, is_refused, last_device, last_model, last_origin, opens, origin_after}
use Rattle.model.specs.Steps.{step}
use Rattle.model.specs.declared.state.State.{State}
use Rattle.model.proofs.Standings.{first-stands, step-stands}
use Rattle.runs.specs.Laws.{Begins, Composes, Ran, RunLaw}
use Rattle.runs.specs.Performed.{Performed}

-- where a run has come to: what is left gives what the whole gives
pub record Along (m : Model) (d₀ : Device) (all left : List Request) (made : List Reply) (st : State) (d : Device) (here : Model) : Type 0 where
  pub represents : Represents here st d
  pub replies : made ++ answers here left ≡ answers m all
  pub model : last_model here left ≡ last_model m all
  pub device : last_device here d left ≡ last_device m d₀ all

pub record Tally (m : Model) (d₀ : Device) (o₀ : Origin) (all left : List Request) (d : Device) (here : Model) : Type 0 where
  pub o : Origin
  pub standing : Standing here d o
  pub same : last_origin here d o left ≡ last_origin m d₀ o₀ all

module _ (m : Model) (d₀ : Device) (all : List Request) (made : List Reply) (st st' : State) (d d' : Device) (request : Request) (rest : List Request) (reply : Reply) where
  device-is : (here : Model) → Represents here st d → Performed st d request reply st' d' → d' ≡ device_after here d request
  device-is here rep p = p.device ∙ ap (λ m. device_after m d request) (sym rep.model)

  along-on : (here : Model) → Along m d₀ all (request ∷ rest) made st d here → Performed st d request reply st' d' → Along m d₀ all rest (made ++ (reply ∷ [])) st' d' (step here request).model
  along-on here a p =
      let turn = p.turn here a.represents in
      record {
        represents = turn.represents;
        replies = append_assoc made (reply ∷ []) (answers (step here request).model rest) ∙ ap (λ r. made ++ (r ∷ answers (step here request).model rest)) turn.replied ∙ a.replies;
        model = a.model;
        device = ap (λ x. last_device (step here request).model x rest) (device-is here a.represents p) ∙ a.device;
      }

  tally-on : (o₀ : Origin) (here : Model) → size_of d ≤ 65535 → Represents here st d → Performed st d request reply st' d' → Tally m d₀ o₀ all (request ∷ rest) d here
      → Tally m d₀ o₀ all rest d' (step here request).model
  tally-on o₀ here small rep p t =
      let dev = device-is here rep p in
      record {
        o = origin_after here d t.o request;
        standing = subst (λ x. Standing (step here request).model x (origin_after here d t.o request)) (sym dev) (step-stands st d small here rep.model t.o t.standing request);
        same = ap (λ x. last_origin (step here request).model x (origin_after here d t.o request) rest) dev ∙ t.same;
      }

-- from a represented model
pub record FromModel (st₀ : State) (d₀ : Device) (all left : List Request) (made : List Reply) (st : State) (d : Device) (m : Model) : Type 0 where
  pub here : Model
  pub along : Along m d₀ all left made st d here
  pub tally : (o : Origin) → Standing m d₀ o → Tally m d₀ o all left d here

-- from a granted first call: none was made yet, or the model that it makes is represented
pub record FromFirst (st₀ : State) (d₀ : Device) (all left : List Request) (made : List Reply) (st : State) (d : Device) : Type 0 where
  pub here : Model
  pub along : Along (model_of st₀ d₀) d₀ all left made st d here
  pub tally : Tally (model_of st₀ d₀) d₀ (first_origin (model_of st₀ d₀) d₀) all left d here

pub record Unbegun (st₀ : State) (d₀ : Device) (all left : List Request) (made : List Reply) (st : State) (d : Device) : Type 0 where
  pub all_left : left ≡ all
  pub none_made : made ≡ []
  pub same-state : st ≡ st₀
  pub same-device : d ≡ d₀

pub record Sofar (st₀ : State) (d₀ : Device) (all left : List Request) (made : List Reply) (st : State) (d : Device) : Type 0 where
  pub model : (m : Model) → Represents m st₀ d₀ → FromModel st₀ d₀ all left made st d m
  pub first : Begins st₀ d₀ all → Unbegun st₀ d₀ all left made st d ⊎ FromFirst st₀ d₀ all left made st d

module _ (st₀ : State) (d₀ : Device) (all : List Request) (made : List Reply) (st st' : State) (d d' : Device) (request : Request) (rest : List Request) (reply : Reply) where
  -- the first call of a list that begins with a granted one
  first-here : size_of d ≤ 65535 → opens request ≡ true → is_refused (model_of st d) request ≡ false → Performed st d request reply st' d' → FromFirst st d (request ∷ rest) rest (reply ∷ []) st' d'
  first-here small opening granted p =
      let decided = p.decided opening in
      let here = (step (model_of st d) request).model in
      let o = origin_after (model_of st d) d (first_origin (model_of st d) d) request in
      record {
        here = here;
        along = record {
          represents = decided.represents (ap (λ (r : Reply). is_err r.answer) decided.replied ∙ granted);
          replies = ap (λ r. r ∷ answers here rest) decided.replied;
          model = refl;
          device = ap (λ x. last_device here x rest) p.device;
        };
        tally = record {
          o = o;
          standing = subst (λ x. Standing here x o) (sym p.device) (first-stands st d small request opening granted);
          same = ap (λ x. last_origin here x o rest) p.device;
        };
      }

  first_on : size_of d ≤ 65535 → Begins st₀ d₀ all → Unbegun st₀ d₀ all (request ∷ rest) made st d → Performed st d request reply st' d' → FromFirst st₀ d₀ all rest (made ++ (reply ∷ [])) st' d'
  first_on small b u p =
      let heads : ◌≡◌ {A = List Request} (request ∷ rest) (b.first ∷ b.rest) = u.all_left ∙ b.is in
      let head : request ≡ b.first = head-is heads in
      subst (λ x. FromFirst st₀ d₀ all rest (x ++ (reply ∷ [])) st' d') (sym u.none_made)
      (subst (λ x. FromFirst st₀ d₀ x rest (reply ∷ []) st' d') u.all_left
      (subst (λ x. FromFirst x d₀ (request ∷ rest) rest (reply ∷ []) st' d') u.same-state
      (subst (λ x. FromFirst st x (request ∷ rest) rest (reply ∷ []) st' d') u.same-device
      (first-here small (ap opens head ∙ b.opening) (ap₂ (λ s e. is_refused (model_of s e) request) u.same-state u.same-device ∙ ap (is_refused (model_of st₀ d₀)) head ∙ b.granted) p))))
    where
      head-is : {x y : Request} {xs ys : List Request} → ◌≡◌ {A = List Request} (x ∷ xs) (y ∷ ys) → x ≡ y
      head-is h = cc

  sofar-on : size_of d ≤ 65535 → Sofar st₀ d₀ all (request ∷ rest) made st d → Performed st d request reply st' d' → Sofar st₀ d₀ all rest (made ++ (reply ∷ [])) st' d'
  sofar-on small s p = record {
    model = λ m rep. let at = s.model m rep in record {
      here = (step at.here request).model;
      along = along-on m d₀ all made st st' d d' request rest reply at.here at.along p;
      tally = λ o stands. tally-on m d₀ all made st st' d d' request rest reply o at.here small at.along.represents p (at.tally o stands);
    };
    first = λ b. inr (by b (s.first b));
  }
    where
      by : Begins st₀ d₀ all → Unbegun st₀ d₀ all (request ∷ rest) made st d ⊎ FromFirst st₀ d₀ all (request ∷ rest) made st d → FromFirst st₀ d₀ all rest (made ++ (reply ∷ [])) st' d'
      by b (inl u) = first_on small b u p
      by b (inr at) = record {
        here = (step at.here request).model;
        along = along-on (model_of st₀ d₀) d₀ all made st st' d d' request rest reply at.here at.along p;
        tally = tally-on (model_of st₀ d₀) d₀ all made st st' d d' request rest reply (first_origin (model_of st₀ d₀) d₀) at.here small at.along.represents p at.tally;
      }

-- at the end
module _ (st₀ : State) (d₀ : Device) (all left : List Request) (made : List Reply) (st : State) (d : Device) (none : left ≡ []) where
  ran : (m here : Model) → Along m d₀ all left made st d here → Ran m d₀ all made st d
  ran m here a = record {
    replied = sym (append-nil made) ∙ ap (λ l. made ++ answers here l) (sym none) ∙ a.replies;
    represents = subst (λ x. Represents x st d) (ap (last_model here) (sym none) ∙ a.model) a.represents;
    device = ap (last_device here d) (sym none) ∙ a.device;
  }

  tallied : (m here : Model) (o₀ : Origin) → Along m d₀ all left made st d here → Tally m d₀ o₀ all left d here → Standing (last_model m all) d (last_origin m d₀ o₀ all)
  tallied m here o₀ a t =
      subst (λ x. Standing x d (last_origin m d₀ o₀ all)) (ap (last_model here) (sym none) ∙ a.model)
      (subst (λ o. Standing here d o) (ap (last_origin here d t.o) (sym none) ∙ t.same) t.standing)

  -- a pack that is up follows the layout
  up-follows : (here : Model) (o : Origin) → Represents here st d → Standing here d o → Follows d
  up-follows here o rep s = by st.pack refl
    where
      by : (k : Option Pack) → st.pack ≡ k → Follows d
      by None q = absurd (true≢false (sym s.up ∙ ap (λ (m : Model). m.up) rep.model ∙ ap is_some q))
      by (Some pack) q = ((judgement-law d 1024 (judged d 1024) refl).granted pack (rep.judged pack q)).follows

  ends-first : Begins st₀ d₀ all → Unbegun st₀ d₀ all left made st d ⊎ FromFirst st₀ d₀ all left made st d → FromFirst st₀ d₀ all left made st d
  ends-first b (inl u) = let never : ◌≡◌ {A = List Request} [] (b.first ∷ b.rest) = sym none ∙ u.all_left ∙ b.is in cc
  ends-first b (inr f) = f

  pub run-law : Sofar st₀ d₀ all left made st d → RunLaw st₀ d₀ all made st d
  run-law s = record {
    begun = λ b. let f = ends-first b (s.first b) in ran (model_of st₀ d₀) f.here f.along;
    follows = λ b. let f = ends-first b (s.first b) in up-follows f.here f.tally.o f.along.represents f.tally.standing;
    counted = λ b. let f = ends-first b (s.first b) in tallied (model_of st₀ d₀) f.here (first_origin (model_of st₀ d₀) d₀) f.along f.tally;
    from = λ m rep. let at = s.model m rep in ran m at.here at.along;
    stands = λ m rep o stands. let at = s.model m rep in tallied m at.here o at.along (at.tally o stands);
  }

-- lists in two parts
answers-join : (one : List Request) (m : Model) (two : List Request) → answers m (one ++ two) ≡ answers m one ++ answers (last_model m one) two
answers-join [] m two = refl
answers-join (r ∷ rest) m two = ap (λ l. (step m r).reply ∷ l) (answers-join rest (step m r).model two)

model-join : (one : List Request) (m : Model) (two : List Request) → last_model m (one ++ two) ≡ last_model (last_model m one) two
model-join [] m two = refl
model-join (r ∷ rest) m two = model-join rest (step m r).model two

device-join : (one : List Request) (m : Model) (d : Device) (two : List Request) → last_device m d (one ++ two) ≡ last_device (last_model m one) (last_device m d one) two
device-join [] m d two = refl
device-join (r ∷ rest) m d two = device-join rest (step m r).model (device_after m d r) two

origin-join : (one : List Request) (m : Model) (d : Device) (o : Origin) (two : List Request)
    → last_origin m d o (one ++ two) ≡ last_origin (last_model m one) (last_device m d one) (last_origin m d o one) two
origin-join [] m d o two = refl
origin-join (r ∷ rest) m d o two = origin-join rest (step m r).model (device_after m d r) (origin_after m d o r) two

pub composes : Composes
composes = record {
  replies = λ m one two. answers-join one m two;
  model = λ m one two. model-join one m two;
  device = λ m d one two. device-join one m d two;
  origin = λ m d o one two. origin-join one m d o two;
}

-- one call on, where the lists are known by equations
pub sofar-next : (st₀ : State) (d₀ : Device) (all left : List Request) (made made' : List Reply) (st st' : State) (d d' : Device) (request : Request) (rest : List Request) (reply : Reply)
    → size_of d ≤ 65535 → left ≡ request ∷ rest → made' ≡ made ++ (reply ∷ []) → Sofar st₀ d₀ all left made st d → Performed st d request reply st' d' → Sofar st₀ d₀ all rest made' st' d'
sofar-next st₀ d₀ all left made made' st st' d d' request rest reply small is more s p =
    subst (λ x. Sofar st₀ d₀ all rest x st' d') (sym more) (sofar-on st₀ d₀ all made st st' d d' request rest reply small (subst (λ x. Sofar st₀ d₀ all x made st d) is s) p)

pub law-of : (st₀ : State) (d₀ : Device) (all all' left : List Request) (made : List Reply) (st : State) (d : Device) → left ≡ [] → all ≡ all' → Sofar st₀ d₀ all left made st d → RunLaw st₀ d₀ all' made st d
law-of st₀ d₀ all all' left made st d none is s = subst (λ x. RunLaw st₀ d₀ x made st d) is (run-law st₀ d₀ all left made st d none s)
