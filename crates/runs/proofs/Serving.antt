-- A call that changes nothing, made by its value. Assumes nothing.
use Rattle.std.proofs.Common.{◌≡◌, ℕ, false, List, length, Vec, vec_items, Result, sym, ap, ◌∙◌, subst}
use Rattle.std.proofs.lemmas.Bool.{true≢false}
use Rattle.std.proofs.lemmas.List.{with_items_is}
use Rattle.std.specs.Vec.{with_items}
use Rattle.refusal.specs.declared.Refusal.{Refusal}
use Rattle.blocks.specs.Devices.{Device}
use Rattle.model.specs.Models.{model_of}
use Rattle.model.specs.Represents.{Turns}
use Rattle.model.specs.Requests.{Reply, Request, find, show}
use Rattle.model.specs.Runs.{device_after, opens}
use Rattle.model.specs.declared.state.NameKind.{NameKind}
use Rattle.model.specs.declared.state.State.{State}
use Rattle.requests.specs.Values.{meant}
use Rattle.requests.specs.declared.values.Request.{Request as Call}
use Rattle.unit.specs.Calls.{number}
use Rattle.runs.specs.Performed.{Performed}

pub served : {Z : Type 0} (st : State) (d : Device) {call given : Call} {reply : Reply} {asked : Request} (answer : Result ℕ Refusal) (buffer : Vec ℕ Z) (bytes : List ℕ)
    → call ≡ given → asked ≡ meant given → opens (meant given) ≡ false → d ≡ device_after (model_of st d) d (meant given)
    → length bytes ≡ length (vec_items buffer) → reply ≡ number answer (vec_items (with_items buffer bytes)) → Turns st d asked (number answer bytes) st d → Performed st d (meant call) reply st d
served st d {given = given} {reply = reply} {asked = asked} answer buffer bytes is same closed kept long made turn =
    subst (λ q. Performed st d (meant q) reply st d) (sym is) (record {
      turn = subst (λ r. Turns st d (meant given) r st d) (sym (made ∙ ap (number answer) (with_items_is buffer bytes (long ∙ sym buffer.ok.0)))) (subst (λ q. Turns st d q (number answer bytes) st d) same turn);
      decided = λ h. absurd (true≢false (sym h ∙ closed));
      device = kept;
    })

-- the same arguments make the same call
pub asked-find : (kind : NameKind) {w w' : ℕ} {n n' b b' : List ℕ} → w ≡ w' → n ≡ n' → b ≡ b' → find w kind n b ≡ find w' kind n' b'
asked-find kind p q r = λ i. find (p i) kind (q i) (r i)

pub asked-show : (entry : ℕ) {w w' : ℕ} {b b' : List ℕ} → w ≡ w' → b ≡ b' → show w entry b ≡ show w' entry b'
asked-show entry p r = λ i. show (p i) entry (r i)
