use mathlib.Core.Path.{refl, ap, ◌∙◌}
use native.Mathlib.Omega.{arith}
use Prim.Native.Nat.{◌+◌, ◌-◌, ◌≤◌}
use Rattle.model.specs.Text.{is_default}
use Rattle.trimming.specs.Nodes.{next_text}
use Rattle.trimming.proofs.Entire.{element-reads, all_fair, first-text}
use Rattle.trimming.proofs.Entire.{second-behind, second-text, pairs-left, single-left}
use Rattle.trimming.proofs.nodes.trim_text_nodes.Goals as goal

pub space_of-requires-clause-by_index : goal.space_of-requires-clause-by_index
space_of-requires-clause-by_index c =
    let a = c.args in
    element-reads a.characters.now a.nodes.now a.attributes.now a.text.now a.counts a.e c.requires

pub trim_pairs-requires : goal.trim_pairs-requires
trim_pairs-requires c =
    let a = c.args in
    let told = c.is_default-default.ensures ∙ ap is_default c.space_of.ensures in
    let two = c.in-Some-next_text.ensures in
    record {
      fair = all_fair a.characters.now a.nodes.now a.attributes.now a.text.now a.counts a.e c.requires;
      text_of = first-text a.characters.now a.nodes.now a.attributes.now a.text.now a.counts a.e c.requires _ told _ c.in-Some.ensures.1
          (λ z. omega (arith, c.in-Some.ensures.0));
      text_of_2 = second-text a.characters.now a.nodes.now a.attributes.now a.text.now a.counts a.e c.requires _ told _ c.in-Some.ensures.1
          (λ z. omega (arith, c.in-Some.ensures.0)) _ two.1 (omega (arith, two.0, two.1));
      first_lt_second = second-behind a.characters.now a.nodes.now a.attributes.now a.text.now a.counts a.e c.requires _ told _
          c.in-Some.ensures.1
          (λ z. omega (arith, c.in-Some.ensures.0)) _ two.1;
    }

pub returns-in-Some-next_text : goal.returns-in-Some-next_text
returns-in-Some-next_text c =
    let a = c.args in
    let told = c.is_default-default.ensures ∙ ap is_default c.space_of.ensures in
    let two = c.in-Some-next_text.ensures in
    pairs-left a.characters.now a.nodes.now a.attributes.now a.text.now a.counts a.e c.requires _ told _ c.in-Some.ensures.1
    (λ z. omega (arith, c.in-Some.ensures.0)) _ two.1 (omega (arith, two.0, two.1)) _ _ c.trim_pairs.ensures

pub returns-then-default : goal.returns-then-default
returns-then-default c =
    let a = c.args in
    let told = c.is_default-default.ensures ∙ ap is_default c.space_of.ensures in
    let second = next_text a.nodes.now (c.in-Some.first + 1) (a.counts.nodes - (c.in-Some.first + 1)) in
    let none : a.counts.nodes ≤ second = omega (arith, c.in-None.ensures) in
    single-left a.characters.now a.nodes.now a.attributes.now a.text.now a.counts a.e c.requires _ told _ c.in-Some.ensures.1
    (λ z. omega (arith, c.in-Some.ensures.0)) second refl none c.if-default.true _ _ c.trim_single.ensures
