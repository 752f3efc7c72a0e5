use mathlib.Core.Path.{ap, ◌∙◌}
use native.Mathlib.Omega.{arith}
use lib.ListN.{get_or}
use Rattle.std.proofs.lemmas.List.{length-take-le, get_or_append_left, get_or-replicate}
use Rattle.cuts.proofs.quiet.forget.Goals as goal

pub returns : goal.returns
returns c = λ b l m.
    let k = c.blocks-2.ensures.1 b l m in
    let w = length-take-le c.blocks-2.result c.args.quiet.now (omega (arith, c.blocks-2.ensures.0, c.told-quiet)) in
    get_or_append_left c.fill.new.self _ 0 b (omega (arith, k, w, c.fill.ensures.len))
    ∙ ap (λ xs. get_or xs b 0) (c.fill.ensures.after (λ y e. e)) ∙ get_or-replicate _ b 0 0 (omega (arith, k, w))
