-- How the first entry at fault stands to the layout. Assumes nothing.
use Rattle.std.proofs.Common.{◌≡◌, ℕ, ◌-◌, ◌*◌, ◌<◌, ◌≤◌, true, false, ◌⊎◌, Some, None, Option, sym, refl, ap, ◌∙◌, subst, inl, inr, arith}
use Rattle.std.proofs.lemmas.Bool.{cases_eq, cases_lt, cases_order, not-false, not_from_true, true≢false}
use Rattle.std.specs.Option.{option_or}
use Rattle.blocks.specs.Devices.{Device}
use Rattle.directory.specs.Entries.{entry_at}
use Rattle.directory.specs.Judgements.{AtFault, Holds, LayoutLaw, Unended, blocks_left_at, files_fault, holds, is_broken, is_left_at, layout_fault}
use Rattle.directory.specs.Layouts.{Follows, IsBlocksLeft, directory_blocks, end_of}
use Rattle.directory.specs.Lookups.{first_that, is_blocks_left}
use Rattle.directory.proofs.Firsts.{IsFirst, first-is, same_first}
use Rattle.directory.proofs.Testing.{holds-is, is-holds}

module _ (d : Device) where
  -- the BLOCKS LEFT entry is the one that is found
  left_is : (l : ℕ) → IsFirst (is_left_at d) 3 (39 * directory_blocks d - 3) (Some l) → IsBlocksLeft d l
  left_is l h = record { from = h.0; within = omega (arith, h.0, h.1); marked = h.2; first = h.3 }

  is-left : (l : ℕ) → IsBlocksLeft d l → IsFirst (is_left_at d) 3 (39 * directory_blocks d - 3) (Some l)
  is-left l b = (b.from, omega (arith, b.from, b.within), b.marked, b.first)

  pub left_at : (l : ℕ) → IsBlocksLeft d l → blocks_left_at d ≡ Some l
  left_at l b =
      same_first (is_left_at d) 3 (39 * directory_blocks d - 3) (blocks_left_at d) (Some l) (first-is (is_left_at d) (39 * directory_blocks d - 3) 3) (is-left l b)

  one_left : (l m : ℕ) → IsBlocksLeft d l → IsBlocksLeft d m → l ≡ m
  one_left l m b c = let same : Some l ≡ Some m = sym (left_at l b) ∙ left_at m c in let z : l ≡ m = cc in z

  no-left : IsFirst (is_left_at d) 3 (39 * directory_blocks d - 3) None → (e : ℕ) → IsBlocksLeft d e → ⊥
  no-left h e b = true≢false (sym b.marked ∙ h e b.from (omega (arith, b.from, b.within)))

  -- tests and what they test
  unbroken : (e : ℕ) → is_broken d e ≡ false → Holds d e
  unbroken e h = holds-is d e (not-false (holds d e) h)

  broken : (e : ℕ) → is_broken d e ≡ true → Holds d e → ⊥
  broken e h k = true≢false (sym h ∙ not_from_true (holds d e) (is-holds d e k))

  -- to follow the layout is to have a BLOCKS LEFT entry, and that each entry up to it holds
  pub follows-holds : (f : Follows d) (e : ℕ) → e ≤ f.left → Holds d e
  follows-holds f e le = record {
    volume = λ q. f.volume;
    boot = λ q. f.boot;
    directory = λ q. f.directory;
    begins = λ low. f.chain e low le;
    ends = λ low t. ap (λ k. end_of (entry_at d k)) (last low t (cases_eq e f.left)) ∙ f.ends;
    named = λ low t. f.named e low (before t (cases_eq e f.left));
    live = λ low t. f.live e low (before t (cases_eq e f.left));
  }
    where
      last : 3 ≤ e → is_blocks_left (entry_at d e) ≡ true → (e ≡ f.left) ⊎ (e ≡ f.left → ⊥) → e ≡ f.left
      last low t (inl q) = q
      last low t (inr q) = absurd (true≢false (sym t ∙ f.is_left.first e low (omega arith)))

      before : is_blocks_left (entry_at d e) ≡ false → (e ≡ f.left) ⊎ (e ≡ f.left → ⊥) → e < f.left
      before t (inl q) = absurd (true≢false (sym f.is_left.marked ∙ ap (λ k. is_blocks_left (entry_at d k)) (sym q) ∙ t))
      before t (inr q) = omega arith

  holds-follows : (l : ℕ) → IsBlocksLeft d l → ((e : ℕ) → e ≤ l → Holds d e) → Follows d
  holds-follows l b h = record {
    volume = (h 0 (omega arith)).volume refl;
    boot = (h 1 (omega (arith, b.from))).boot refl;
    directory = (h 2 (omega (arith, b.from))).directory refl;
    left = l;
    is_left = b;
    ends = (h l (omega arith)).ends b.from b.marked;
    chain = λ e low le. (h e le).begins low;
    named = λ e low lt. (h e (omega arith)).named low (b.first e low lt);
    live = λ e low lt. (h e (omega arith)).live low (b.first e low lt);
  }

  -- what a fault, or none, says of the pack
  abbrev Says : Option ℕ → Type 0
  Says None = Follows d
  Says (Some e) = AtFault d e ⊎ (Unended d × (e ≡ 39 * directory_blocks d))

  says-files : IsFirst (is_broken d) 0 3 None → (l : ℕ) → IsBlocksLeft d l → (x : Option ℕ) → IsFirst (is_broken d) 3 (l - 2) x → Says x
  says-files head l b None h = holds-follows l b (λ e le. by e le (cases_lt e 3))
    where
      by : (e : ℕ) → e ≤ l → (e < 3) ⊎ (3 ≤ e) → Holds d e
      by e le (inl q) = unbroken e (head e (omega arith) (omega arith))
      by e le (inr q) = unbroken e (h e q (omega (arith, b.from)))
  says-files head l b (Some e) h = inl (record {
    breaks = broken e h.2;
    before = λ f lt. by f lt (cases_lt f 3);
    reached = inr (l, b, omega (arith, h.1, b.from));
  })
    where
      by : (f : ℕ) → f < e → (f < 3) ⊎ (3 ≤ f) → Holds d f
      by f lt (inl q) = unbroken f (head f (omega arith) (omega arith))
      by f lt (inr q) = unbroken f (h.3 f q lt)

  says-left : IsFirst (is_broken d) 0 3 None → (o : Option ℕ) → IsFirst (is_left_at d) 3 (39 * directory_blocks d - 3) o → Says (files_fault d o)
  says-left head None h = inr (record { head = λ e le. unbroken e (head e (omega arith) (omega arith)); none = no-left h }, refl)
  says-left head (Some l) h = says-files head l (left_is l h) (first_that (is_broken d) 3 (l - 2)) (first-is (is_broken d) (l - 2) 3)

  says-head : (x : Option ℕ) → IsFirst (is_broken d) 0 3 x → Says (option_or x (files_fault d (blocks_left_at d)))
  says-head None h = says-left h (blocks_left_at d) (first-is (is_left_at d) (39 * directory_blocks d - 3) 3)
  says-head (Some e) h = inl (record {
    breaks = broken e h.2;
    before = λ f lt. unbroken f (h.3 f (omega arith) lt);
    reached = inl (omega (arith, h.1));
  })

  says : Says (layout_fault d)
  says = says-head (first_that (is_broken d) 0 3) (first-is (is_broken d) 3 0)

  -- none of the three goes with another
  not-fault : Follows d → (e : ℕ) → AtFault d e → ⊥
  not-fault f e a = a.breaks (follows-holds f e (by a.reached))
    where
      by : (e ≤ 2) ⊎ ((left : ℕ) × (IsBlocksLeft d left) × (e ≤ left)) → e ≤ f.left
      by (inl q) = omega (arith, f.is_left.from)
      by (inr q) = omega (arith, q.2, one_left q.0 f.left q.1 f.is_left)

  not-both : Unended d → (e : ℕ) → AtFault d e → ⊥
  not-both u e a = by a.reached
    where
      by : (e ≤ 2) ⊎ ((left : ℕ) × (IsBlocksLeft d left) × (e ≤ left)) → ⊥
      by (inl q) = a.breaks (u.head e q)
      by (inr q) = u.none q.0 q.1

  one-fault : (e f : ℕ) → AtFault d e → AtFault d f → e ≡ f
  one-fault e f a b = by (cases_order e f)
    where
      by : (e ≡ f) ⊎ ((e < f) ⊎ (f < e)) → e ≡ f
      by (inl q) = q
      by (inr (inl q)) = absurd (a.breaks (b.before e q))
      by (inr (inr q)) = absurd (b.breaks (a.before f q))

  follows-none : (x : Option ℕ) → Says x → Follows d → x ≡ None
  follows-none None s f = refl
  follows-none (Some e) (inl a) f = absurd (not-fault f e a)
  follows-none (Some e) (inr u) f = absurd (u.0.none f.left f.is_left)

  fault-some : (x : Option ℕ) → Says x → (e : ℕ) → AtFault d e → x ≡ Some e
  fault-some None f e a = absurd (not-fault f e a)
  fault-some (Some g) (inl b) e a = ap Some (one-fault g e b a)
  fault-some (Some g) (inr u) e a = absurd (not-both u.0 e a)

  unended-some : (x : Option ℕ) → Says x → Unended d → x ≡ Some (39 * directory_blocks d)
  unended-some None f u = absurd (u.none f.left f.is_left)
  unended-some (Some g) (inl b) u = absurd (not-both u g b)
  unended-some (Some g) (inr v) u = ap Some v.1

  missing-is : 1 ≤ directory_blocks d → Says (Some (39 * directory_blocks d)) → Unended d
  missing-is some (inr u) = u.0
  missing-is some (inl a) = absurd (by a.reached)
    where
      by : (39 * directory_blocks d ≤ 2) ⊎ ((left : ℕ) × (IsBlocksLeft d left) × (39 * directory_blocks d ≤ left)) → ⊥
      by (inl q) = omega arith
      by (inr q) = omega (arith, q.2, q.1.within)

  pub layout-law : LayoutLaw d
  layout-law = record {
    none = λ h. subst Says h says;
    follows = follows-none (layout_fault d) says;
    fault = λ e h. subst Says h says;
    at_fault = fault-some (layout_fault d) says;
    missing = λ some h. missing-is some (subst Says h says);
    unended = unended-some (layout_fault d) says;
  }
