use mathlib.Core.Path.{ap}
use native.Mathlib.Omega.{arith}
use Rattle.tree.specs.Lent.{tree_of}
use Rattle.questions.specs.declared.Part.{Part}
use Rattle.questions.proofs.Facts.{part-within}
use Rattle.questions.proofs.question.text.Goals as goal

pub slice_bounds-result-end : goal.slice_bounds-result-end
slice_bounds-result-end c =
    let args = c.args in
    omega (
      arith,
      part-within args.characters.now
          (tree_of args.nodes.now args.attributes.now args.text.now args.counts) args.node,
      ap (λ (p : Part). p.start) c.text_part-part.ensures,
      ap (λ (p : Part). p.size) c.text_part-part.ensures,
    )
