use mathlib.Core.Path.{ap, ◌∙◌}
use mathlib.Core.List.{List}
use Rattle.model.specs.Drawing.{Source}
use Rattle.tree.specs.Lent.{tree_of}
use Rattle.label.specs.Walk.{quote_of}
use Rattle.label.proofs.Holders.{appends, quote-node, found-texts, found-quotes, found_nothing}
use Rattle.label.proofs.within.add_quoted.Goals as goal

pub append_quoted-requires : goal.append_quoted-requires
append_quoted-requires c = record {
  quotable = found-quotes _ _ _ c.quoted.ensures.same _ c.in-Some.is c.quoted.ensures.fit c.requires.lies;
  appendable = appends _ _ _ _ _ _ c.requires.holding;
}

pub returns-in-Some : goal.returns-in-Some
returns-in-Some c =
    quote-node _ _ _ _ _ _ _ _ c.requires.space_value _ _ c.append_quoted.result c.append_quoted.ensures
    ∙ ap (λ (l : List Source). quote_of c.args.drawing.now.characters.now l c.args.p
    (tree_of c.args.nodes.now c.args.attributes.now c.args.text.now c.args.counts))
    (found-texts _ _ _ c.quoted.ensures.same _ c.in-Some.is)

pub returns-in-None : goal.returns-in-None
returns-in-None c = found_nothing _ _ _ c.quoted.ensures.same c.in-None.is _ _
