use native.Mathlib.Omega.{arith}
use mathlib.Core.Path.{sym, ap, ◌∙◌}
use lib.Dec.{eqb}
use Rattle.walk.specs.Nodes.{element_of}
use Rattle.std.proofs.lemmas.Result.{err_from_is_err_and}
use Rattle.tree.proofs.Bools.{fails, passes}
use Rattle.pieces.specs.Content.{tag_in}
use Rattle.label.proofs.Holders.{reads}
use Rattle.pieces.proofs.Contents.{content-is}
use Rattle.label.proofs.Telling.{element-done, element-none, element-behind, append-done, append-none}
use Rattle.label.proofs.Walking.{goes-past, new-space, element-refused, goes_in, in-recalled}
use Rattle.label.proofs.Walking.{tref-holds, tref-refused, goes-tref, tref-recalled}
use Rattle.label.proofs.within.begin.Goals as goal

pub returns-then-not-is_text_content : goal.returns-then-not-is_text_content
returns-then-not-is_text_content c =
    let content = content-is (element_of
    c.args.drawing.now
    c.args.x)
    (eqb c.args.s.p
    c.args.e) in
    let within = c.requires.within in
    let opens = c.requires.opening in
    let recalled = c.requires.recalled in
    let on = goes-past _ _ _ _ _ _ within _ opens
    (sym content ∙ fails c.is_text_content.ensures c.if-not-is_text_content.true-raw) _ c.past_element-behind.ensures.same
    c.past_element-behind.ensures.fit c.past_element-behind.ensures.further in
    (on.0, on.1, recalled)

pub get_xmlspace-space-requires : goal.get_xmlspace-space-requires
get_xmlspace-space-requires c =
    let content = content-is (element_of c.args.drawing.now
    c.args.x)
    (eqb c.args.s.p
    c.args.e) in
    let within = c.requires.within in
    let opens = c.requires.opening in
    let is = sym content ∙ passes c.is_text_content.ensures
    c.if-not-is_text_content.false-raw in
    let named = c.text_tag_of.ensures
    ∙ ap tag_in c.code_of-code.ensures in
    let nodes = element-behind _ _ _ c.parse_svg_element.ensures.behind _ c.in_ok-opened.was in
    let told = element-done _ _ _ _ _ (c.parse_svg_element.ensures.outcome c.args.text.now) _ c.in_ok-opened.was in
    reads _ _ _ _ _ _ (tref-holds _ _ _ _ _ _ within _ opens is _ named _ _ _ _ _ nodes told) _ (omega arith)

pub returns-then-is_read : goal.returns-then-is_read
returns-then-is_read c =
    let content = content-is (element_of c.args.drawing.now c.args.x) (eqb c.args.s.p c.args.e) in
    let within = c.requires.within in
    let opens = c.requires.opening in
    let recalled = c.requires.recalled in
    let is = sym content ∙ passes c.is_text_content.ensures
    c.if-not-is_text_content.false-raw in
    let named = c.text_tag_of.ensures ∙ ap tag_in c.code_of-code.ensures in
    let nodes = element-behind _ _ _ c.parse_svg_element.ensures.behind _ c.in_ok-opened.was in
    let told = element-done _ _ _ _ _ (c.parse_svg_element.ensures.outcome c.args.text.now) _ c.in_ok-opened.was in
    let on = goes_in _ _ _ _ _ _ within _ opens is _ named _ _ _ _ _ nodes told _
    c.get_xmlspace-space.ensures
    (λ z. c.if-is_read.true (c.code_of-code.ensures ∙ z)) in
    (on.0, on.1, in-recalled _ _ _ _ _ _ within _ opens is _ named _ _ _ _ _ nodes told _ recalled _ c.push.ensures)

pub add_quoted-requires : goal.add_quoted-requires
add_quoted-requires c =
    let content = content-is (element_of c.args.drawing.now c.args.x) (eqb c.args.s.p c.args.e) in
    let within = c.requires.within in
    let opens = c.requires.opening in
    let is = sym content ∙ passes c.is_text_content.ensures
    c.if-not-is_text_content.false-raw in
    let named = c.text_tag_of.ensures ∙ ap tag_in c.code_of-code.ensures in
    let nodes = element-behind _ _ _ c.parse_svg_element.ensures.behind _ c.in_ok-opened.was in
    let told = element-done _ _ _ _ _ (c.parse_svg_element.ensures.outcome c.args.text.now) _ c.in_ok-opened.was in record {
      holding = tref-holds _ _ _ _ _ _ within _ opens is _ named _ _ _ _ _ nodes told;
      space_value = new-space _ _ _ _ _ _ within _ opens is _ named _ _ _ _ _ nodes told
          c.get_xmlspace-space.result c.get_xmlspace-space.ensures;
      standing = opens.standing;
      lies = within.all;
      memo = c.requires.memo;
    }

pub returns-in_err-opened : goal.returns-in_err-opened
returns-in_err-opened c =
    let content = content-is (element_of c.args.drawing.now
    c.args.x)
    (eqb c.args.s.p
    c.args.e) in
    let within = c.requires.within in
    let opens = c.requires.opening in
    let is = sym content ∙ passes
    c.is_text_content.ensures
    c.if-not-is_text_content.false-raw in
    let named = c.text_tag_of.ensures
    ∙ ap tag_in c.code_of-code.ensures in
    let out = err_from_is_err_and c.from_residual.result c.from_residual.ensures.1 in
    rw (out.1, out.2) (element-refused _ _ _ _ _ _ within _ opens is _ named _
    (element-none _ _ _ _ _ (c.parse_svg_element.ensures.outcome _) _ c.in_err-opened.was))

pub returns-in_err-all : goal.returns-in_err-all
returns-in_err-all c =
    let content = content-is (element_of c.args.drawing.now
    c.args.x)
    (eqb c.args.s.p
    c.args.e) in
    let within = c.requires.within in
    let opens = c.requires.opening in
    let is = sym content ∙ passes c.is_text_content.ensures c.if-not-is_text_content.false-raw in
    let named = c.text_tag_of.ensures
    ∙ ap tag_in c.code_of-code.ensures in
    let nodes = element-behind _ _ _ c.parse_svg_element.ensures.behind _ c.in_ok-opened.was in
    let told = element-done _ _ _ _ _ (c.parse_svg_element.ensures.outcome c.args.text.now) _ c.in_ok-opened.was in
    let tref = sym c.code_of-code.ensures
    ∙ c.if-is_read.false in
    let out = err_from_is_err_and c.from_residual-in_err-all.result c.from_residual-in_err-all.ensures.1 in
    rw (out.1, out.2) (tref-refused _ _ _ _ _ _ within _ opens is _ named _ _ _ _ _ nodes told tref _
    (append-none _ _ _ _ _ c.add_quoted.ensures _ c.in_err-all.was))

pub returns : goal.returns
returns c =
    let content = content-is (element_of c.args.drawing.now
    c.args.x)
    (eqb c.args.s.p
    c.args.e) in
    let within = c.requires.within in
    let opens = c.requires.opening in
    let recalled = c.requires.recalled in
    let is = sym content ∙ passes c.is_text_content.ensures
    c.if-not-is_text_content.false-raw in
    let named = c.text_tag_of.ensures
    ∙ ap tag_in c.code_of-code.ensures in
    let nodes = element-behind _ _ _ c.parse_svg_element.ensures.behind _ c.in_ok-opened.was in
    let told = element-done _ _ _ _ _ (c.parse_svg_element.ensures.outcome c.args.text.now) _ c.in_ok-opened.was in
    let tref = sym c.code_of-code.ensures
    ∙ c.if-is_read.false in
    let done = append-done _ _ _ _ _ c.add_quoted.ensures _
    c.in_ok-all.was in
    let on = goes-tref _ _ _ _ _ _ within _ opens is _ named _ _ _ _ _ nodes told tref _ _ _ done _
    c.past_element-past.ensures.same c.past_element-past.ensures.fit c.past_element-past.ensures.further in
    (on.0, on.1, tref-recalled _ _ _ _ _ _ within _ opens is _ named _ _ _ _ _ nodes told tref _ _ _ done _ recalled)
