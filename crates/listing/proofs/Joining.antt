-- Blocks joined end to end: each stands at its place. Assumes nothing.
use Rattle.std.proofs.Common.{◌≡◌, ℕ, zero, suc, ◌+◌, ◌*◌, ◌<◌, List, [], ◌∷◌, ◌++◌, length, get_or, take, drop, sym, ap, ◌∙◌, append_assoc, append-nil, arith}
use Rattle.std.proofs.lemmas.List.{drop-append-le, drop-drop, drop_all, take-append-le, take_all}
use Rattle.std.proofs.lemmas.List.Elements.{All-drop, All-get_or}
use Rattle.std.specs.List.{All, concat}
use Rattle.parts.specs.Parts.{part}

abbrev pub IsBlock : List ℕ → Type 0
IsBlock block = length block ≡ 1024

pub joined-block : (bs : List (List ℕ)) (n : ℕ) (d : List ℕ) → All IsBlock bs → n < length bs → part (1024 * n) 1024 (concat bs) ≡ get_or bs n d
joined-block [] n d h l = absurd (omega arith)
joined-block (x ∷ bs) zero d h l =
    let long : length x ≡ 1024 = All-get_or IsBlock (x ∷ bs) 0 d (omega arith) h in
    take-append-le 1024 x (concat bs) (omega arith) ∙ take_all 1024 x (omega arith)
joined-block (x ∷ bs) (suc n) d h l =
    let long : length x ≡ 1024 = All-get_or IsBlock (x ∷ bs) 0 d (omega arith) h in
    let at : 1024 * suc n ≡ 1024 + 1024 * n = omega arith in
    let past : drop (1024 * suc n) (x ++ concat bs) ≡ drop (1024 * n) (concat bs) =
    ap (λ k. drop k (x ++ concat bs)) at ∙ sym (drop-drop (1024 * n) 1024 (x ++ concat bs))
    ∙ ap (drop (1024 * n)) (drop-append-le 1024 x (concat bs) (omega arith) ∙ ap (λ l. l ++ concat bs) (drop_all 1024 x (omega arith))) in
    ap (take 1024) past ∙ joined-block bs n d (All-drop IsBlock 1 (x ∷ bs) h) (omega arith)

pub joined-push : (bs : List (List ℕ)) (b : List ℕ) → concat (bs ++ b ∷ []) ≡ concat bs ++ b
joined-push [] b = append-nil b
joined-push (x ∷ bs) b = ap (λ l. x ++ l) (joined-push bs b) ∙ sym (append_assoc x (concat bs) b)
