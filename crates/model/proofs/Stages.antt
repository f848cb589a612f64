-- What the stages of a call have tested where none of them refuses. Assumes nothing.
use Rattle.std.proofs.Common.{◌≡◌, ℕ, ◌+◌, ◌≤◌, Bool, true, false, cond, ◌&&◌, eqb, leb, List, Some, None, Option, refl}
use Rattle.std.proofs.lemmas.Bool.{and_parts, eqb-true, leb-true}
use Rattle.std.specs.Option.{option_map, option_or}
use Rattle.refusal.specs.declared.Refusal.{Refusal}
use Rattle.refusal.specs.declared.Refusal.TheVariants.{OutOfRange}
use Rattle.blocks.specs.Devices.{Device, refusal_of, size_of}
use Rattle.blocks.specs.declared.faults.Fault.{Fault}
use Rattle.blocks.specs.declared.faults.Tab.{Tab}
use Rattle.blocks.specs.declared.faults.Tab.TheVariants.{Off, On}
use Rattle.names.specs.Names.{is_volume}
use Rattle.model.specs.Models.{model_of}
use Rattle.model.specs.Steps.{bad_stage, first_bad, initialise_refusal, name_stage, shape_stage, tab_stage, work_stage}
use Rattle.model.specs.declared.state.State.{State}

pub full : (work : ℕ) → work_stage work ≡ None → work ≡ 1024
full work h = go (eqb work 1024) refl h
  where
    go : (t : Bool) → eqb work 1024 ≡ t → cond t None (Some OutOfRange) ≡ None → work ≡ 1024
    go true t q = eqb-true work 1024 t
    go false t q = cc

-- what the stages of initialise have tested
pub record Facts (d : Device) (work : ℕ) (name : List ℕ) (directory blocks : ℕ) : Type 0 where
  pub full : work ≡ 1024
  pub some : 1 ≤ directory
  pub few : directory ≤ 127
  pub least : directory + 1 ≤ blocks
  pub most : blocks ≤ size_of d
  pub keeps : is_volume name ≡ true
  pub off : d.tab ≡ Off
  pub sound : first_bad d.marks 1 directory ≡ None

-- neither of two stages refuses where the first that does is none
pub neither : {X : Type 0} (o p : Option X) → option_or o p ≡ None → (o ≡ None) × (p ≡ None)
neither None p h = (refl, h)
neither (Some x) p h = cc

passes : (t : Bool) (r : Refusal) → cond t None (Some r) ≡ None → t ≡ true
passes true r h = refl
passes false r h = cc

tab-off : (t : Tab) → tab_stage t ≡ None → t ≡ Off
tab-off Off h = refl
tab-off (On depth) h = cc

all_sound : (o : Option Fault) → option_map refusal_of o ≡ None → o ≡ None
all_sound None h = refl
all_sound (Some fault) h = cc

pub facts : (st : State) (d : Device) (work : ℕ) (name : List ℕ) (directory blocks : ℕ) → initialise_refusal (model_of st d) work name directory blocks ≡ None → Facts d work name directory blocks
facts st d work name directory blocks none =
    let p = neither (work_stage work) _ none in
    let q = neither (shape_stage (size_of d) directory blocks) _ p.1 in
    let r = neither (name_stage (is_volume name)) _ q.1 in
    let s = neither (tab_stage d.tab) (bad_stage d.marks directory) r.1 in
    let shape = passes ((leb 1 directory && leb directory 127) && (leb (directory + 1) blocks && leb blocks (size_of d))) _ q.0 in
    let both = and_parts (leb 1 directory && leb directory 127) (leb (directory + 1) blocks && leb blocks (size_of d)) shape in
    let one = and_parts (leb 1 directory) (leb directory 127) both.0 in
    let two = and_parts (leb (directory + 1) blocks) (leb blocks (size_of d)) both.1 in
    record {
      full = full work p.0;
      some = leb-true 1 directory one.0;
      few = leb-true directory 127 one.1;
      least = leb-true (directory + 1) blocks two.0;
      most = leb-true blocks (size_of d) two.1;
      keeps = passes (is_volume name) _ r.0;
      off = tab-off d.tab s.0;
      sound = all_sound (first_bad d.marks 1 directory) s.1;
    }
