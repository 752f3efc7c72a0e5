-- `trim_text_nodes` whole: which program it is, and what it leaves. Assumes nothing.
use Prim.Native.Nat.{ℕ, zero, suc, ◌+◌, ◌-◌, ◌≤◌, ◌<◌}
use mathlib.Core.Path.{◌≡◌, refl, sym, ap, ◌∙◌}
use mathlib.Core.Bool.{Bool, true, false}
use mathlib.Core.List.{List, [], ◌∷◌}
use mathlib.Core.Option.{none}
use native.Mathlib.Omega.{arith}
use lib.Dec.{eqb}
use lib.ListN.{length}
use Rattle.model.specs.Base.{pick}
use Rattle.model.specs.Tables.{Tree, TEXT, kind_of, parent_of}
use Rattle.model.specs.Text.{XmlSpace, TextNode, is_default, space_of, text_nodes}
use Rattle.model.specs.Text.{own_text_nodes, pairs, trimming, run, trim_text_nodes}
use Rattle.tree.specs.Lent.{read_of, tree_of, texts_of, ReadableIn}
use Rattle.tree.specs.declared.Counts.{Counts}
use Rattle.tree.proofs.Facts.{readable-in}
use Rattle.text.specs.Spaces.{space_by}
use Rattle.edges.specs.Pairs.{after_single}
use Rattle.trimming.specs.Nodes.{Fair, IsTextOf, node_at, next_text, Trimmable}
use Rattle.text.proofs.Collapse.{by_default}
use Rattle.trimming.proofs.Depths.{depth_same}
use Rattle.text.proofs.Seen.{xmlspace-same, space-same}
use Rattle.edges.proofs.Programs.{run_lent, run-single}
use Rattle.trimming.proofs.Collected.{fair-ranged, NextIn, next-in, texts-next, texts-here, texts-none}

-- THE SAME THROUGH NODES AND ATTRIBUTES ALONE

module _ (chars : List ℕ) (t : Tree) where
  abbrev seen : Tree
  seen = read_of t.nodes t.attributes

  texts-same : (w : XmlSpace) (e n i : ℕ) → text_nodes chars seen w e i n ≡ text_nodes chars t w e i n
  unfolding text_nodes
  texts-same w e zero i = refl
  texts-same w e (suc n) i =
      go (eqb (kind_of t i) TEXT) (texts-same w e n (i + 1)) (depth_same seen t (λ j. refl) e i i)
      (xmlspace-same chars t (parent_of t i - 1) w)
    where
      go : (b : Bool) {l m : List TextNode} {d f : ℕ} {x y : XmlSpace} → l ≡ m → d ≡ f → x ≡ y →
          pick b (λ u. record { node = i; depth = d; space = x } ∷ l) (λ u. l) ≡
          pick b (λ u. record { node = i; depth = f; space = y } ∷ m) (λ u. m)
      go true p q r = rw (p, q, r) refl
      go false p q r = p

-- WHAT THE CALLS ASK

module _ (chars ns es bs : List ℕ) (c : Counts) (e : ℕ) (h : Trimmable chars (tree_of ns es bs c) e) where
  abbrev t : Tree
  t = tree_of ns es bs c

  pub element-reads : (k : ℕ) → k ≤ e → ReadableIn (length chars) (read_of ns es) k
  element-reads k l = readable-in (length chars) (tree_of ns es bs c) h.kept k (omega (arith, h.inside))

  pub all_fair : Fair (length chars) ns es bs e c.nodes
  all_fair = record {
    below = record {
      small = h.small;
      inside = h.kept.fits.nodes;
      under = λ i x y. (h.under i x y, (h.kept.nodes i y).falls);
    };
    readable = λ i l. readable-in (length chars) (tree_of ns es bs c) h.kept i l;
    texts = λ i l k. let b = (h.kept.nodes i l).bytes k in (b.0, omega (arith, b.1, h.kept.fits.bytes));
  }

  -- THE PROGRAM

  module _ (d : Bool) (told : d ≡ is_default (space_of chars (read_of ns es) e)) where
    -- The text nodes from i on, as they are found.
    abbrev list : ℕ → List TextNode
    list i = text_nodes chars (read_of ns es) (space_by d) e i (c.nodes - i)

    -- What a program leaves, with the attributes and the counts.
    abbrev full : Tree → Tree
    full u = tree_of u.nodes es u.text c

    abbrev program : List TextNode → Tree
    program l = run (trimming (space_by d) l) (texts_of ns bs)

    whole : full (program (list (e + 1))) ≡ trim_text_nodes chars e (tree_of ns es bs c)
    unfolding trim_text_nodes own_text_nodes
    whole =
        let s : space_of chars (tree_of ns es bs c) e ≡ space_by d =
        sym (space-same chars (tree_of ns es bs c) e) ∙ sym (ap space_by told ∙ by_default (space_of chars (read_of ns es) e)) in
        sym (rw s
        (ap (λ (l : List TextNode). run (trimming (space_by d) l) (tree_of ns es bs c))
        (sym (texts-same chars (tree_of ns es bs c) (space_by d) e (c.nodes - (e + 1)) (e + 1)))
        ∙ run_lent (trimming (space_by d) (list (e + 1))) ns es bs c))

    -- Tables that the program leaves, from the list as it is found.
    left : (ns' bs' : List ℕ) (l : List TextNode) → list (e + 1) ≡ l → texts_of ns' bs' ≡ program l →
        tree_of ns' es bs' c ≡ trim_text_nodes chars e (tree_of ns es bs c)
    left ns' bs' l p q = ap full q ∙ ap (λ (m : List TextNode). full (program m)) (sym p) ∙ whole

    module _ (first : ℕ) (found : first ≡ next_text ns (e + 1) (c.nodes - (e + 1))) where
      one : NextIn ns (e + 1) c.nodes first
      one = next-in ns (e + 1) c.nodes first (omega (arith, h.inside)) found

      pub first-most : first ≤ c.nodes
      first-most = one.high

      skipped : list (e + 1) ≡ list first
      skipped = texts-next chars (read_of ns es) (space_by d) e (e + 1) c.nodes first (omega (arith, h.inside)) found

      -- There is no text node.
      pub none_left : first ≡ c.nodes → tree_of ns es bs c ≡ trim_text_nodes chars e (tree_of ns es bs c)
      unfolding trimming run
      none_left z =
          left ns bs [] (skipped ∙ texts-none chars (read_of ns es) (space_by d) e first c.nodes (omega arith)) refl

      module _ (some : first ≡ c.nodes → ⊥) where
        less : first < c.nodes
        less = omega (arith, one.high)

        pub first-text : IsTextOf ns e c.nodes first
        first-text = (omega (arith, one.low), (less, one.text less))

        headed : list (e + 1) ≡ node_at chars (read_of ns es) (space_by d) e first ∷ list (first + 1)
        headed = skipped ∙ texts-here chars (read_of ns es) (space_by d) e first c.nodes less (one.text less)

        module _ (second : ℕ) (next : second ≡ next_text ns (first + 1) (c.nodes - (first + 1))) where
          two : NextIn ns (first + 1) c.nodes second
          two = next-in ns (first + 1) c.nodes second (omega (arith, less)) next

          pub second-behind : first < second
          second-behind = omega (arith, two.low)

          pub second-text : second < c.nodes → IsTextOf ns e c.nodes second
          second-text l = (omega (arith, one.low, two.low), (l, two.text l))

          paired : list (e + 1) ≡ node_at chars (read_of ns es) (space_by d) e first ∷ list second
          paired =
              headed ∙ ap (λ (m : List TextNode). node_at chars (read_of ns es) (space_by d) e first ∷ m)
              (texts-next chars (read_of ns es) (space_by d) e (first + 1) c.nodes second (omega (arith, less)) next)

          -- There are several.
          pub pairs-left : second < c.nodes → (ns' bs' : List ℕ) →
              texts_of ns' bs' ≡ run (pairs true none (node_at chars (read_of ns es) (space_by d) e first) (list second)) (texts_of ns bs) →
              tree_of ns' es bs' c ≡ trim_text_nodes chars e (tree_of ns es bs c)
          unfolding trimming
          pairs-left l ns' bs' q =
              let here = texts-here chars (read_of ns es) (space_by d) e second c.nodes l (two.text l) in
              left ns' bs' _
              (paired ∙ ap (λ (m : List TextNode). node_at chars (read_of ns es) (space_by d) e first ∷ m) here)
              (q ∙ ap
              (λ (m : List TextNode). run (pairs true none (node_at chars (read_of ns es) (space_by d) e first) m) (texts_of ns bs)) here)

          -- There is a single one.
          alone : c.nodes ≤ second → list (e + 1) ≡ node_at chars (read_of ns es) (space_by d) e first ∷ []
          alone l =
              paired ∙ ap (λ (m : List TextNode). node_at chars (read_of ns es) (space_by d) e first ∷ m)
              (texts-none chars (read_of ns es) (space_by d) e second c.nodes l)

          pub single-preserved : c.nodes ≤ second → d ≡ false → tree_of ns es bs c ≡ trim_text_nodes chars e (tree_of ns es bs c)
          unfolding trimming run
          single-preserved l z = left ns bs _ (alone l) (rw z refl)

          pub single-left : c.nodes ≤ second → d ≡ true → (ns' bs' : List ℕ) → texts_of ns' bs' ≡ after_single first (texts_of ns bs) →
              tree_of ns' es bs' c ≡ trim_text_nodes chars e (tree_of ns es bs c)
          unfolding trimming
          single-left l z ns' bs' q =
              left ns' bs' _ (alone l)
              (q ∙ sym (run-single (node_at chars (read_of ns es) (space_by d) e first) (texts_of ns bs)) ∙ rw z refl)

-- What the texts of an element come to: none, a single one, several.
pub ruleset ends = (all_fair, fair-ranged, first-most, first-text, none_left, single-preserved)
