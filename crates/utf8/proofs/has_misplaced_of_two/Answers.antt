use Rattle.std.proofs.Common.{◌≡◌, ◌+◌, ◌-◌, ◌||◌, ap, ◌∙◌, arith, rules, tests, get_or, length, drop, length-drop}
use Rattle.std.specs.Slice.Iter.{windows_rest, windows_size}
use Rattle.std.specs.Slice.ArrayWindows.{array_windows_parts}
use Rattle.std.proofs.lemmas.List.{take_rest}
use Rattle.utf8.specs.Lead.{misplaced_of_two, misplaced_of_two_in}
use Rattle.utf8.proofs.Folds.{windows-any, window-of_two}
use Rattle.utf8.proofs.has_misplaced_of_two.Goals as goal

pub returns : goal.returns
returns c =
    let s = c.args.s.now in
    let made = c.array_windows.ensures in
    let run = c.fold.ensures.runs in
    run.3 (λ found x. found || misplaced_of_two (get_or x.now 0 0) (get_or x.now 1 0)) (λ x y r f' k. search (rules, tests))
    ∙ windows-any run.0 2 (drop 2 s) _ _ run.2 (omega arith) _ _ (ap (λ f. windows_size (array_windows_parts f)) run.1 ∙ made.size)
    (ap (λ f. windows_rest (array_windows_parts f)) run.1 ∙ made.rest ∙ take_rest s 2) (made.runs run.0 run.0.seen)
    (λ k x. window-of_two s x.now k)
    ∙ ap (λ n. misplaced_of_two_in s 0 n) (let z : length (drop 2 s) + 1 - 2 ≡ length s - 3 = omega (arith, length-drop 2 s) in z)
