-- `literals::index_of` meets its contract: where the value stands first is its place. Assumes nothing.
use Rattle.std.proofs.Common.{rules, tests, ◌≡◌, List, take, true, false, sym, ◌∙◌}
use Rattle.std.proofs.lemmas.Iterator.{IsFirst-from_position, YieldsList-from_slice, index_from_first}
use lib.Ieee.{Float}
use lib.Ieee as Ieee
use Rattle.text.specs.Reading.{index_of}
use Rattle.literals.proofs.Indices.{index_none, index_here, index_behind}
use Rattle.literals.proofs.index_of.Goals as goal

pub returns : goal.returns
returns c =
    let x : Float = c.args.x in
    let seen : List Float = take c.args.n c.args.values.now in
    let first = IsFirst-from_position _ _ _ (λ v. Ieee.eq v x ≡ true) (λ v. Ieee.eq v x ≡ false) c.position.ensures.ran
    (YieldsList-from_slice seen cc) (λ v q k. search (rules, tests)) (λ v q k. search (rules, tests)) in
    c.unwrap_or.ensures
    ∙ sym
    (index_from_first (λ (vs : List Float). index_of vs x) (λ v. Ieee.eq v x ≡ true) (λ v. Ieee.eq v x ≡ false)
    (index_none x) (λ v vs h. index_here v x vs h) (λ v vs h. index_behind v x vs h) seen c.position.result first)
