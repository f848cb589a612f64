-- A key that is held as a name field finds what the name as given finds. Assumes nothing.
use Rattle.std.proofs.Common.{◌≡◌, ℕ, zero, suc, ◌+◌, Bool, cond, not, ◌&&◌, List, Some, refl, ap, ◌∙◌, ap₂}
use Rattle.names.specs.Names.{name_field}
use Rattle.entry.specs.Fields.{name_of}
use Rattle.listing.specs.Finds.{live}
use Rattle.listing.specs.Walks.{entry_at, first_that, is_deleted}

-- two tests that tell the same of every entry have the same first
first_alike : (P Q : List ℕ → Bool) (bytes : List ℕ) → ((x : List ℕ) → P x ≡ Q x) → (n e : ℕ) → first_that P bytes e n ≡ first_that Q bytes e n
first_alike P Q bytes h zero e = refl
first_alike P Q bytes h (suc n) e = ap₂ (λ b r. cond b (Some e) r) (h (entry_at bytes e)) (first_alike P Q bytes h n (e + 1))

pub field-finds : (fits : List ℕ → List ℕ → Bool) → ((name field : List ℕ) → fits (name_field name) field ≡ fits name field)
    → (bytes given field : List ℕ) (n : ℕ) → field ≡ name_field given → first_that (live fits field) bytes 3 n ≡ first_that (live fits given) bytes 3 n
field-finds fits alike bytes given field n e =
    first_alike (live fits field) (live fits given) bytes
    (λ x. ap (λ b. not (is_deleted x) && b) (ap (λ f. fits f (name_of x)) e ∙ alike given (name_of x))) n 3
