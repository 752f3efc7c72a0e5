-- The text node of a tref: what its append comes to. Assumes nothing.
use Prim.Native.Nat.{ℕ, ◌+◌, ◌-◌, ◌*◌, ◌/◌, ◌≤◌, ◌<◌, min}
use mathlib.Core.Path.{◌≡◌, refl, sym, ◌∙◌}
use mathlib.Core.Bool.{true, false}
use mathlib.Core.List.{List, []}
use native.Mathlib.Omega.{arith}
use borrow.Author.Tests.{le-leb, lt-leb, lt-ltb, le-ltb, eq-eqb, ne_eqb}
use lib.Dec.{eqb, leb}
use lib.ListN.{length}
use lib.Seq.{sets}
use Rattle.model.specs.Drawing.{Source}
use Rattle.model.specs.Tables.{Tree, Out, refused, done, most, node_room, text_room, word, appended, add_text}
use Rattle.model.specs.Text.{XmlSpace, trim_text, total_size, joined}
use Rattle.tree.specs.Lent.{tree_of, nodes_read, texts_of}
use Rattle.tree.specs.declared.Counts.{Counts}
use Rattle.text.specs.Append.{Appendable, append_in}
use Rattle.pieces.specs.Quotes.{quote_in}

module _ (ns bs chars : List ℕ) (c : Counts) (w : XmlSpace) (p : ℕ) (from : List Source) (n : ℕ) (total : n ≡ total_size from) where
  abbrev t : Tree
  t = tree_of ns [] bs c

  abbrev whole : Out Tree
  whole = quote_in w chars from p (tree_of ns [] bs c)

  pub quote-none : n ≡ 0 → done t ≡ whole
  unfolding quote_in
  quote-none e = rw (eq-eqb (total_size from) 0 (sym total ∙ e)) refl

  module _ (h : Appendable (tree_of ns [] bs c) p) (some : n ≡ 0 → ⊥) where
    there : eqb (total_size from) 0 ≡ false
    there = ne_eqb (total_size from) 0 (λ e. some (total ∙ e))

    module _ (r : ℕ) (room : r ≡ text_room (texts_of [] bs)) where
      pub quote-bytes : r - c.text < n → refused 24 ≡ whole
      unfolding quote_in append_in text_room
      quote-bytes l = rw (there, lt-leb (c.text + total_size from) (min (length bs) most) (omega (arith, total, room, h.room))) refl

      module _ (fits : n ≤ r - c.text) where
        pub quote-fits : (c.text + n ≤ most) × (c.text + n ≤ length bs)
        unfolding text_room
        quote-fits = (omega (arith, room, h.room), omega (arith, room, h.room))

        enough : leb (c.text + total_size from) (min (length bs) most) ≡ true
        unfolding text_room
        enough = le-leb (c.text + total_size from) (min (length bs) most) (omega (arith, total, room, h.room))

        module _ (q : ℕ) (records : q ≡ node_room (nodes_read ns)) where
          pub quote-record : q ≤ c.nodes → refused 22 ≡ whole
          unfolding quote_in append_in text_room node_room
          quote-record l = rw (there, enough, le-ltb c.nodes (min (length ns / 8) most) (omega (arith, records))) refl

          module _ (less : c.nodes < q) where
            pub record-fits : (8 * c.nodes + 7 < length ns) × (p < c.nodes) × (c.nodes < most) × (word ns p 4 ≤ c.nodes)
            unfolding node_room
            record-fits = (omega (arith, records), h.parent, omega (arith, records), h.last)

            pub quote-added : (ns' bs' : List ℕ) (end : ℕ) → end ≡ c.text + length (trim_text w (joined chars from)) →
                bs' ≡ sets bs c.text (trim_text w (joined chars from)) → ns' ≡ appended 3 0 c.text end ns p c.nodes →
                done (tree_of ns' [] bs' (record { nodes = c.nodes + 1; attributes = c.attributes; text = c.text + n })) ≡ whole
            unfolding quote_in append_in text_room node_room add_text
            quote-added ns' bs' end a b d =
                rw (there, enough, lt-ltb c.nodes (min (length ns / 8) most) (omega (arith, records)), total, ← a, ← b, ← d) refl
