-- Demand 3 of the code, from demand 3 of the definitions. Assumes nothing.
use mathlib.Core.Path.{◌≡◌, sym, ap, ◌∙◌}
use Prim.Native.Nat.{ℕ}
use lib.ListN.{length, length-replicate}
use Rattle.model.specs.Tables.{Tree, cleared}
use Rattle.model.specs.Build.{Result, build, exchanged}
use Rattle.model.specs.Demand3.{Exchangeable}
use Rattle.model.proofs.Theorems.Whole.{demand3}
use Rattle.model.proofs.Theorems.Sealed.{built-as-lent, built-characters}
use Rattle.exchange.specs.Demand.{Demand3OfCalls}

pub demand3-of-calls : Demand3OfCalls
unfolding cleared
demand3-of-calls script chars n m b ns es bs one t a new chars' ns' es' bs' two c =
    let zero : (build script chars n m b).number ≡ 0 = sym (ap (λ (r : Result). r.number) c.built) ∙ c.number in
    let lent = built-as-lent script chars n m b zero in
    let tree = ap (λ (r : Result). r.tree) c.built in
    let h : Exchangeable script chars n m b t a new =
    record { built = zero; text = c.text; outside = c.outside; size = c.size; utf8 = c.utf8 } in
    let d = demand3 script chars n m b t a new h in
    let e = c.exchanged ∙ d.accepted ns es bs
    (ap (λ (s : Tree). length s.nodes) tree ∙ lent.nodes ∙ length-replicate {A = ℕ} n 0)
    (ap (λ (s : Tree). length s.attributes) tree ∙ lent.attributes ∙ length-replicate {A = ℕ} m 0)
    (ap (λ (s : Tree). length s.text) tree ∙ lent.text ∙ length-replicate {A = ℕ} b 0) in
    let same : chars' ≡ exchanged a new chars =
    ap (λ (r : Result). r.characters) e ∙ built-characters script (exchanged a new chars) n m b d.number in (
      ap (λ (r : Result). r.number) e ∙ d.number,
      ap (λ (r : Result). r.characters) e ∙ d.characters,
      rw (same, tree, ap (λ (r : Result). r.tree) e) d.alike,
    )
