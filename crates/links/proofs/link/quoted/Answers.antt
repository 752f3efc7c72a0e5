use Rattle.links.proofs.Linking.{node-stands, quotes-nothing, quotes-foreign, quotes-texts}
use Rattle.links.proofs.link.quoted.Goals as goal

pub returns-in_err-l-clause-same : goal.returns-in_err-l-clause-same
returns-in_err-l-clause-same c =
    rw c.from_residual.ensures (quotes-nothing _ c.args.e _ c.tref_href.ensures.same _ c.linked.ensures.same c.in_err-l.was)

pub returns-then-has_tag_name : goal.returns-then-has_tag_name
returns-then-has_tag_name c =
    record {
      same = quotes-texts _ c.args.e _ c.tref_href.ensures.same _ c.linked.ensures.same _ c.in_ok-l.was _
          c.has_tag_name.ensures c.if-has_tag_name.true;
      fit = node-stands _ _ _ c.in_ok-l.was c.linked.ensures.fit;
    }

pub returns-clause-same : goal.returns-clause-same
returns-clause-same c =
    quotes-foreign _ c.args.e _ c.tref_href.ensures.same _ c.linked.ensures.same _ c.in_ok-l.was _
    c.has_tag_name.ensures c.if-has_tag_name.false
