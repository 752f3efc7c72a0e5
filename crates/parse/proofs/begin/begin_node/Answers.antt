use mathlib.Core.Path.{◌∙◌, sym}
use native.Mathlib.Omega.{arith}
use borrow.Author.Tests.{eq-eqb, ne_eqb}
use Rattle.parse.proofs.Begins.{begun-deep, begun-skipped}
use Rattle.parse.proofs.begin.begin_node.Goals as goal

pub returns-then-left-eq0 : goal.returns-then-left-eq0
returns-then-left-eq0 c = begun-deep _ _ _ _ _ _ _ _ _ c.requires.beginning c.if-left-eq0.true

pub returns-then-not-is_parsed : goal.returns-then-not-is_parsed
returns-then-not-is_parsed c =
    begun-skipped _ _ _ _ _ c.args.left _ _ _ c.requires.beginning (omega (arith, c.if-left-eq0.false))
    (sym c.is_parsed.ensures ∙ c.if-not-is_parsed.true) _ c.past_element-past.ensures.same
    c.past_element-past.ensures.fit c.past_element-past.ensures.further

pub begin_text-requires : goal.begin_text-requires
begin_text-requires c =
    record {
      beginning = c.requires.beginning;
      text = (
        omega (arith, c.if-left-eq0.false),
        sym c.is_parsed.ensures ∙ c.if-not-is_parsed.false,
        eq-eqb _ _ (sym c.code_of.ensures ∙ c.if-code_of-eq-TEXT.true),
      );
      memo = c.requires.memo;
    }

pub begin_element-requires : goal.begin_element-requires
begin_element-requires c =
    record {
      beginning = c.requires.beginning;
      other = (
        omega (arith, c.if-left-eq0.false),
        sym c.is_parsed.ensures ∙ c.if-not-is_parsed.false,
        ne_eqb _ _ (λ q. c.if-code_of-eq-TEXT.false (c.code_of.ensures ∙ q)),
      );
    }
