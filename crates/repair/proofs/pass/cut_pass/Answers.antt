use mathlib.Core.Path.{ap, ◌∙◌}
use Rattle.model.specs.Repair.{applied}
use Rattle.targets.proofs.Passes.{pass-first}
use Rattle.repair.proofs.Passing.{links-each, links-all, pass-turn, pass-done, sought-on}
use Rattle.repair.proofs.pass.cut_pass.Goals as goal

pub loop-i-preserved : goal.loop-i-preserved
loop-i-preserved c =
    let inv = c.loop-i.invariant in (
      pass-turn _ _ _ _ _ _ (links-each _ _ _ _) _ _ _ _ inv.0 c.loop-i-test.true _ _ c.cut_named-known.ensures.tables
          inv.0.mendable.drawn.fit,
      λ z. sought-on _ _ _ _ _ _ inv.0.mendable _ _ c.cut_named-known.ensures.tables _ (pass-first _) c.requires.pass_bound (inv.1 z),
      c.cut_named-known.ensures.known,
    )

pub returns : goal.returns
returns c =
    pass-done _ _ _ _ _ _ (links-each _ _ _ _) _ _ _ _ c.loop-i.invariant.0 c.loop-i-test.false
    ∙ ap (applied _) (links-all _ _ _ _ _ c.element_code-code.ensures c.requires.pass_bound)
