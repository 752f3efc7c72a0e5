use Rattle.std.proofs.Common.{◌||◌, ap, ◌∙◌, rules, tests}
use Rattle.std.specs.Slice.Iter.{windows_rest, windows_size}
use Rattle.std.specs.Slice.ArrayWindows.{array_windows_parts}
use Rattle.memo.proofs.Linking.{seen, windows-open}
use Rattle.memo.proofs.link.may_link.Goals as goal

pub returns : goal.returns
returns c =
    let made = c.array_windows.ensures in
    let run = c.fold.ensures.runs in
    run.3 (λ found x. found || seen x) (λ x y r f' k. search (rules, tests))
    ∙ windows-open run.0 c.args.script.now run.2 _ _ (ap (λ f. windows_size (array_windows_parts f)) run.1 ∙ made.size)
    (ap (λ f. windows_rest (array_windows_parts f)) run.1 ∙ made.rest) (made.runs run.0 run.0.seen)
