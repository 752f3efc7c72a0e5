-- The elements of a pass, one after another. Assumes nothing.
use mathlib.Core.Path.{◌≡◌, refl, sym, ap, ◌∙◌, subst}
use mathlib.Core.Bool.{Bool, true, false}
use mathlib.Core.List.{List, [], ◌∷◌}
use Prim.Native.Nat.{ℕ, ◌+◌, ◌-◌, ◌<◌, ◌≤◌}
use native.Mathlib.Omega.{arith}
use borrow.Author.Tests.{ne_eqb, le-leb}
use lib.Dec.{eqb}
use lib.ListN.{length}
use Rattle.model.specs.Base.{pick, and, Pair}
use Rattle.model.specs.EId
use Rattle.model.specs.Drawing.{Value}
use Rattle.model.specs.Tables.{Tree, ELEMENT, word, is_named, attribute_id, set_none}
use Rattle.model.specs.Repair.{up_from, all_named, descendants, recursive_fe_image, Cut, cut_name, cut_entry, cut_at, apply_cut, applied}
use Rattle.model.proofs.Theorems.Cuts as cuts
use Rattle.model.specs.Theorems.GoingOn.{with_each, pairs_of, going_on, element_of}
use Rattle.model.proofs.Theorems.Inside.{all-inside}
use Rattle.model.specs.Theorems.Images.{images_on, pass_on}
use Rattle.model.proofs.Theorems.Images.{values-bare}
use Rattle.ids.specs.declared.heads.Heads.{Heads}
use Rattle.script.specs.declared.drawing.Drawing.{Drawing}
use Rattle.script.specs.declared.cursor.Cursor.{Cursor}
use Rattle.script.specs.Step.{Fit, at_start, document}
use Rattle.places.specs.declared.marks.Marks.{Marks}
use Rattle.tree.specs.declared.Counts.{Counts}
use Rattle.leads.specs.Links.{values_of}
use Rattle.targets.specs.Targets.{seen_of, Targeted}
use Rattle.targets.proofs.Marks.{targeted-applied}
use Rattle.cuts.specs.Seen.{any_with, has_links, Mendable, cut_pairs}
use Rattle.repair.specs.Passes.{link_cuts, image_cuts, is_sought, Sought, Resolved}
use Rattle.cuts.proofs.Descending.{up_step, up_none, descendants-alike}
use Rattle.cuts.proofs.Writing.{mend-on, long-on}
use Rattle.cuts.proofs.Pairing.{pairs_first, linkless-pairs}

-- Which elements there are, and what is below them, is read in the nodes alone.
module _ (t u : Tree) (e : t.nodes ≡ u.nodes) (n : t.node_count ≡ u.node_count) where
  pub named-alike : (c : ℕ) (is : List ℕ) → all_named t c is ≡ all_named u c is
  unfolding all_named
  named-alike c [] = refl
  named-alike c (i ∷ is) =
      ap (λ (l : List ℕ). pick (is_named t c i) (λ x. i ∷ l) (λ x. l)) (named-alike c is)
      ∙ ap (λ (ns : List ℕ). pick (and (eqb (word ns i 0) ELEMENT) (eqb (word ns i 5) c)) (λ x. i ∷ all_named u c is)
      (λ x. all_named u c is)) e

  pairs-alike : (is : List ℕ) → pairs_of t is ≡ pairs_of u is
  unfolding pairs_of
  pairs-alike [] = refl
  pairs-alike (i ∷ is) =
      ap (λ (ps : List Pair). with_each i (descendants t i) ps) (pairs-alike is)
      ∙ ap (λ (js : List ℕ). with_each i js (pairs_of u is)) (descendants-alike t u e n i)

  pub both-alike : (c : ℕ) (is : List ℕ) → pairs_of t (all_named t c is) ≡ pairs_of u (all_named u c is)
  both-alike c is = pairs-alike (all_named t c is) ∙ ap (pairs_of u) (named-alike c is)

-- What a pass cuts at a list of nodes, node by node: the first, then the others in the tree that it leaves.
pub record OneByOne (f : Tree → List ℕ → List Cut) : Type 0 where
  pub none : (t : Tree) → applied t (f t []) ≡ t
  pub more : (t u : Tree) → t.nodes ≡ u.nodes → t.node_count ≡ u.node_count → (i : ℕ) (xs : List ℕ) → u ≡ applied t (f t (i ∷ []))
      → applied t (f t (i ∷ xs)) ≡ applied u (f u xs)

-- THE PASSES 1 TO 5

pub links-each : (chars : List ℕ) (values : List Value) (k code : ℕ) → OneByOne (link_cuts chars values k code)
unfolding all_named pairs_of going_on applied
links-each chars values k code = record { none = λ t. refl; more = more }
  where
    more : (t u : Tree) → t.nodes ≡ u.nodes → t.node_count ≡ u.node_count → (i : ℕ) (xs : List ℕ)
        → u ≡ applied t (link_cuts chars values k code t (i ∷ []))
        → applied t (link_cuts chars values k code t (i ∷ xs)) ≡ applied u (link_cuts chars values k code u xs)
    more t u e n i xs q =
        go (is_named t code i)
        ∙ ap (λ (w : Tree). cut_pairs chars values k w rest) (sym q)
        ∙ ap (λ (ps : List Pair). cut_pairs chars values k u ps) (both-alike t u e n code xs)
      where
        rest : List Pair
        rest = pairs_of t (all_named t code xs)

        go : (b : Bool) → cut_pairs chars values k t (pairs_of t (pick b (λ x. i ∷ all_named t code xs) (λ x. all_named t code xs)))
            ≡ cut_pairs chars values k (cut_pairs chars values k t (pairs_of t (pick b (λ x. i ∷ []) (λ x. [])))) rest
        go true = pairs_first chars values k i (descendants t i) t rest
        go false = refl

module _ (chars : List ℕ) (values : List Value) (k : ℕ) (t : Tree) (code : ℕ) where
  -- One node alone.
  pub named_here : (i : ℕ) → is_named t code i ≡ true
      → cut_pairs chars values k t (with_each i (descendants t i) []) ≡ applied t (link_cuts chars values k code t (i ∷ []))
  unfolding all_named pairs_of
  named_here i e = rw e refl

  linkless-here : (i a : ℕ) → a ≡ cut_name k → is_named t code i ≡ true → has_links t a i ≡ false
      → t ≡ applied t (link_cuts chars values k code t (i ∷ []))
  linkless-here i a e n h = linkless-pairs chars values k i t (ap (λ (x : ℕ). has_links t x i) (sym e) ∙ h) ∙ named_here i n

  unnamed_here : (i : ℕ) → is_named t code i ≡ false → t ≡ applied t (link_cuts chars values k code t (i ∷ []))
  unfolding all_named pairs_of going_on applied
  unnamed_here i e = rw e refl

  pub unsought_here : (i a : ℕ) → a ≡ cut_name k → is_sought t code a i ≡ false → t ≡ applied t (link_cuts chars values k code t (i ∷ []))
  unsought_here i a e h = go (is_named t code i) refl h
    where
      go : (b : Bool) → is_named t code i ≡ b → and b (has_links t a i) ≡ false → t ≡ applied t (link_cuts chars values k code t (i ∷ []))
      go true n h = linkless-here i a e n h
      go false n h = unnamed_here i n

  -- All of them.
  pub links-all : code ≡ element_of k → k ≤ 5 → link_cuts chars values k code t (up_from 0 t.node_count) ≡ pass_on chars values k t
  unfolding pass_on
  links-all z h = ap (λ (x : ℕ). link_cuts chars values k x t (up_from 0 t.node_count)) z ∙ rw (le-leb k 5 h) refl

-- FEIMAGE

module _ (chars : List ℕ) (values : List Value) where
  images-first : (t : Tree) (i : ℕ) (is : List ℕ) → applied t (images_on chars values t (i ∷ is))
      ≡ (let u : Tree = applied t (images_on chars values t (i ∷ [])) in applied u (images_on chars values u is))
  unfolding images_on applied
  images-first t i is = go (eqb w 0)
    where
      w : ℕ
      w = recursive_fe_image chars values t i

      cut : Cut
      cut = cut_at t 6 (w - 1)

      go : (b : Bool)
          → applied t (pick b (λ u. images_on chars values t is) (λ u. cut ∷ images_on chars values (apply_cut t cut) is))
          ≡ (let u : Tree = applied t (pick b (λ x. []) (λ x. cut ∷ [])) in applied u (images_on chars values u is))
      go true = refl
      go false = refl

  pub images-each : OneByOne (image_cuts chars values)
  unfolding all_named images_on applied
  images-each = record { none = λ t. refl; more = more }
    where
      more : (t u : Tree) → t.nodes ≡ u.nodes → t.node_count ≡ u.node_count → (i : ℕ) (xs : List ℕ)
          → u ≡ applied t (image_cuts chars values t (i ∷ []))
          → applied t (image_cuts chars values t (i ∷ xs)) ≡ applied u (image_cuts chars values u xs)
      more t u e n i xs q =
          go (is_named t EId.FeImage i)
          ∙ ap (λ (w : Tree). applied w (images_on chars values w rest)) (sym q)
          ∙ ap (λ (is : List ℕ). applied u (images_on chars values u is)) (named-alike t u e n EId.FeImage xs)
        where
          rest : List ℕ
          rest = all_named t EId.FeImage xs

          go : (b : Bool) → applied t (images_on chars values t (pick b (λ x. i ∷ rest) (λ x. rest)))
              ≡ (let w : Tree = applied t (images_on chars values t (pick b (λ x. i ∷ []) (λ x. []))) in
              applied w (images_on chars values w rest))
          go true = images-first t i rest
          go false = refl

  -- One node alone: it is no feImage, it cuts nothing, or it cuts one node.
  module _ (t : Tree) (i : ℕ) where
    pub no-image : is_named t EId.FeImage i ≡ false → t ≡ applied t (image_cuts chars values t (i ∷ []))
    unfolding all_named images_on applied
    no-image e = rw e refl

    pub image-uncut : is_named t EId.FeImage i ≡ true → 0 ≡ recursive_fe_image chars values t i
        → t ≡ applied t (image_cuts chars values t (i ∷ []))
    unfolding all_named images_on applied
    image-uncut e q = rw (e, ← q) refl

    pub image-cut : is_named t EId.FeImage i ≡ true → (w : ℕ) → w + 1 ≡ recursive_fe_image chars values t i
        → apply_cut t (cut_at t 6 w) ≡ applied t (image_cuts chars values t (i ∷ []))
    unfolding all_named images_on applied
    image-cut e w q =
        let z : w + 1 - 1 ≡ w = omega arith in
        rw (e, ← q, ne_eqb (w + 1) 0 (λ x. omega arith), z) refl

  pub images-all : (t : Tree) → image_cuts chars values t (up_from 0 t.node_count) ≡ pass_on chars values 6 t
  unfolding pass_on
  images-all t = refl

-- THE LOOP

-- In the middle of the nodes: i is next, and what is still to do leaves what all of it leaves.
pub record Pass (drawing : Drawing) (marks : Marks) (heads : Heads) (ns : List ℕ) (c : Counts) (f : Tree → List ℕ → List Cut) (es₀ es : List ℕ) (i : ℕ) (hint : Cursor)
    : Type 0 where
  pub mendable : Mendable drawing marks heads ns es c hint
  pub long : length es ≡ length es₀
  pub same : applied (seen_of ns es c) (f (seen_of ns es c) (up_from i (c.nodes - i)))
      ≡ applied (seen_of ns es₀ c) (f (seen_of ns es₀ c) (up_from 0 c.nodes))

module _ (drawing : Drawing) (marks : Marks) (heads : Heads) (ns : List ℕ) (c : Counts) (f : Tree → List ℕ → List Cut) (o : OneByOne f)
    (es₀ es : List ℕ) (i : ℕ) (hint : Cursor) (q : Pass drawing marks heads ns c f es₀ es i hint) where
  pub pass-turn : i < c.nodes → (es' : List ℕ) (n : Cursor)
      → seen_of ns es' c ≡ applied (seen_of ns es c) (f (seen_of ns es c) (i ∷ [])) → Fit drawing n
      → Pass drawing marks heads ns c f es₀ es' (i + 1) n
  pass-turn l es' n e g =
      let t : Tree = seen_of ns es c in
      let cs : List Cut = f t (i ∷ []) in
      record {
        mendable = mend-on drawing marks heads ns es c cs es' e hint q.mendable n g;
        long = long-on drawing marks heads ns es c cs es' e ∙ q.long;
        same =
            sym (o.more t (seen_of ns es' c) refl refl i (up_from (i + 1) (c.nodes - (i + 1))) e)
            ∙ ap (λ (is : List ℕ). applied t (f t is)) (sym (up_step i c.nodes l))
            ∙ q.same;
      }

  pub pass-done : c.nodes ≤ i → seen_of ns es c ≡ applied (seen_of ns es₀ c) (f (seen_of ns es₀ c) (up_from 0 c.nodes))
  pass-done l =
      sym (o.none (seen_of ns es c))
      ∙ sym (ap (λ (is : List ℕ). applied (seen_of ns es c) (f (seen_of ns es c) is)) (up_none i c.nodes l))
      ∙ q.same

-- THE MARKS

-- The attributes of nodes behind cuts.
ids-cuts : (cs : List Cut) (t : Tree) (x a : ℕ) → attribute_id (applied t cs) x a ≡ attribute_id t x a
unfolding applied apply_cut
ids-cuts [] t x a = refl
ids-cuts (c ∷ cs) t x a = ids-cuts cs (apply_cut t c) x a ∙ go (eqb (cut_entry t c.pass c.node) 0)
  where
    j : ℕ
    j = cut_entry t c.pass c.node

    go : (b : Bool) → attribute_id (pick b (λ u. t) (λ u. set_none (j - 1) t)) x a ≡ attribute_id t x a
    go true = refl
    go false = cuts.id_same (j - 1) t x a

with-same : (t u : Tree) (a : ℕ) → ((x : ℕ) → attribute_id u x a ≡ attribute_id t x a) → (xs : List ℕ) → any_with u a xs ≡ any_with t a xs
unfolding any_with
with-same t u a h [] = refl
with-same t u a h (x ∷ xs) = rw (h x, with-same t u a h xs) refl

-- Tables with the same attributes have the same links.
pub links-same : (ns es es' : List ℕ) (c : Counts) (a i : ℕ)
    → ((x : ℕ) → attribute_id (seen_of ns es' c) x a ≡ attribute_id (seen_of ns es c) x a)
    → has_links (seen_of ns es' c) a i ≡ has_links (seen_of ns es c) a i
unfolding has_links
links-same ns es es' c a i h =
    ap (any_with (seen_of ns es' c) a) (descendants-alike (seen_of ns es' c) (seen_of ns es c) refl refl i)
    ∙ go (descendants (seen_of ns es c) i)
  where
    go : (xs : List ℕ) → any_with (seen_of ns es' c) a xs ≡ any_with (seen_of ns es c) a xs
    go xs = with-same (seen_of ns es c) (seen_of ns es' c) a h xs

-- Cuts keep the marks.
module _ (drawing : Drawing) (marks : Marks) (heads : Heads) (ns es : List ℕ) (c : Counts) (g : Mendable drawing marks heads ns es c at_start) (cs : List Cut)
    (es' : List ℕ) (e : seen_of ns es' c ≡ applied (seen_of ns es c) cs) where
  pub sought-on : (k : ℕ) → 1 ≤ k → k ≤ 5 → Sought drawing.characters.now (values_of drawing) (seen_of ns es c) k
      → Sought drawing.characters.now (values_of drawing) (seen_of ns es' c) k
  sought-on k f l s i m n h =
      let same = links-same ns es es' c (cut_name k) i
      (λ x. ap (λ (u : Tree). attribute_id u x (cut_name k)) e ∙ ids-cuts cs (seen_of ns es c) x (cut_name k)) in
      subst (Targeted drawing.characters.now (values_of drawing) k) (sym e)
      (targeted-applied (length drawing.characters.now) drawing.characters.now (values_of drawing)
      (values-bare (length drawing.characters.now) (document drawing) (all-inside drawing.script.now drawing.characters.now g.drawn.checked)) k f l (seen_of ns es c) g.tidy
      (s i m n (sym same ∙ h)) cs)

  pub resolved-on : Resolved drawing.characters.now (values_of drawing) (seen_of ns es c) 6
      → Resolved drawing.characters.now (values_of drawing) (seen_of ns es' c) 6
  resolved-on r = record { sought = λ k f l. sought-on k f (omega arith) (r.sought k f l) }
