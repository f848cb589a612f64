-- Texts made of other texts. Assumes nothing.
use Rattle.std.proofs.Common.{◌≡◌, ℕ, List}
use Rattle.listing.specs.Catalogues.{page}

-- the same parts make the same text
pub page-is : {v v' r r' l l' d d' : List ℕ} → v ≡ v' → r ≡ r' → l ≡ l' → d ≡ d' → page v r l d ≡ page v' r' l' d'
page-is p q s t = λ i. page (p i) (q i) (s i) (t i)
