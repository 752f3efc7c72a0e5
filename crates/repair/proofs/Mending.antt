-- All passes, one after another, and the text table that they do not read. Assumes nothing.
use mathlib.Core.Path.{◌≡◌, refl, sym, ap, ◌∙◌, subst}
use mathlib.Core.Bool.{Bool, true, false, true≢false}
use mathlib.Core.List.{List, [], ◌∷◌}
use Prim.Native.Nat.{ℕ, zero, suc, ◌+◌, ◌-◌, ◌<◌, ◌≤◌}
use native.Mathlib.Omega.{arith}
use borrow.Author.Tests.{le-leb}
use lib.Dec.{eqb}
use lib.ListN.{length, get_or, length-replicate}
use Rattle.model.specs.Base.{pick, or}
use Rattle.model.specs.EId
use Rattle.model.specs.Drawing.{Value}
use Rattle.model.specs.Tables.{Tree, is_named, entry_at, attribute_id, set_none}
use Rattle.model.specs.Repair.{up_from, all_named, Cut, cut_name, apply_cut, applied, repairs, repaired}
use Rattle.model.proofs.Theorems.Unused.{replicate-zero}
use Rattle.model.proofs.Theorems.Inside.{all-inside}
use Rattle.model.proofs.Theorems.SameRepair.{repairs-same}
use Rattle.model.specs.Theorems.Kept.{KeptNode, Tidy}
use Rattle.model.specs.Theorems.GoingOn.{element_of, pairs_of, going_on}
use Rattle.model.specs.Theorems.Images.{images_on, pass_on, passes_on}
use Rattle.model.proofs.Theorems.Images.{repairs-going-on, values-bare}
use Rattle.ids.specs.declared.heads.Heads.{Heads}
use Rattle.script.specs.declared.drawing.Drawing.{Drawing}
use Rattle.script.specs.declared.cursor.Cursor.{Cursor}
use Rattle.script.specs.Step.{Fit, at_start, Checked, document}
use Rattle.places.specs.declared.marks.Marks.{Marks}
use Rattle.places.specs.Marks.{Marked}
use Rattle.tree.specs.declared.Counts.{Counts}
use Rattle.tree.specs.Lent.{tree_of, read_of}
use Rattle.ids.specs.Chains.{Indexed}
use Rattle.tree.proofs.Alike.{id_same}
use Rattle.leads.specs.Links.{values_of}
use Rattle.targets.specs.declared.name.Pass.{Pass}
use Rattle.targets.specs.declared.name.Pass.TheVariants.{PatternFill, PatternStroke, ClipPath, Mask, Filter}
use Rattle.targets.specs.Pass.{pass_number}
use Rattle.targets.specs.Targets.{seen_of}
use Rattle.targets.proofs.Finding.{start-fit}
use Rattle.cuts.specs.Seen.{Mendable}
use Rattle.repair.specs.Passes.{all_passes, is_linked}
use Rattle.cuts.proofs.Writing.{applied-more, mend-on, long-on}

-- THE TEXT TABLE

-- The tree with another text table.
abbrev with_text : List ℕ → Tree → Tree
with_text bs t = record {
  nodes = t.nodes;
  attributes = t.attributes;
  text = bs;
  node_count = t.node_count;
  attribute_count = t.attribute_count;
  text_count = t.text_count;
}

module _ (bs : List ℕ) where
  cut-text : (t : Tree) (x : Cut) → apply_cut (with_text bs t) x ≡ with_text bs (apply_cut t x)
  unfolding apply_cut set_none
  cut-text t x =
      ap (λ (j : ℕ). pick (eqb j 0) (λ u. with_text bs t) (λ u. set_none (j - 1) (with_text bs t)))
      (sym (id_same (with_text bs t) x.node (cut_name x.pass)) ∙ id_same t x.node (cut_name x.pass))
      ∙ go (eqb (attribute_id t x.node (cut_name x.pass)) 0)
    where
      j : ℕ
      j = attribute_id t x.node (cut_name x.pass)

      go : (b : Bool) → pick b (λ u. with_text bs t) (λ u. set_none (j - 1) (with_text bs t))
          ≡ with_text bs (pick b (λ u. t) (λ u. set_none (j - 1) t))
      go true = refl
      go false = refl

  applied-text : (cs : List Cut) (t : Tree) → applied (with_text bs t) cs ≡ with_text bs (applied t cs)
  unfolding applied
  applied-text [] t = refl
  applied-text (x ∷ cs) t = ap (λ (u : Tree). applied u cs) (cut-text t x) ∙ applied-text cs (apply_cut t x)

  -- The repairs of a tree are those of the tree with any text.
  repaired-text : (chars : List ℕ) (values : List Value) (t : Tree)
      → repaired chars values (with_text bs t) ≡ with_text bs (repaired chars values t)
  unfolding repaired entry_at
  repaired-text chars values t =
      ap (applied (with_text bs t)) (repairs-same chars chars values (with_text bs t) t (record {
        count = refl;
        attribute_count = refl;
        attributes = refl;
        kind = λ i. refl;
        parent = λ i. refl;
        child = λ i. refl;
        code = λ i. refl;
        range = λ i e. (refl, refl);
        safe = λ j. refl;
      }))
      ∙ applied-text (repairs chars values t) t

-- Tables that are tidy with their text are tidy as the repairs see them.
pub tidy-seen : (size : ℕ) (ns es bs : List ℕ) (c : Counts) → Tidy size (tree_of ns es bs c) → Tidy size (seen_of ns es c)
unfolding entry_at
tidy-seen size ns es bs c g = record {
  kept = record {
    fits = record {
      one = g.kept.fits.one;
      nodes = g.kept.fits.nodes;
      entries = g.kept.fits.entries;
      bytes = omega (arith, length-replicate {A = ℕ} c.text 0);
    };
    nodes = λ i l. node i (g.kept.nodes i l);
    entries = g.kept.entries;
  };
  coherent = g.coherent;
  ordered = g.ordered;
  unused = record {
    nodes = g.unused.nodes;
    attributes = g.unused.attributes;
    text = λ q l. replicate-zero c.text q;
  };
}
  where
    node : (i : ℕ) → KeptNode (tree_of ns es bs c) i → KeptNode (seen_of ns es c) i
    node i k = record {
      root = k.root;
      kind = k.kind;
      below = k.below;
      falls = k.falls;
      next = k.next;
      first = k.first;
      last = k.last;
      none = k.none;
      some = k.some;
      code = k.code;
      range = k.range;
      bytes = k.bytes;
    }

-- ONE PASS AFTER ANOTHER

-- Before the passes ks: what they leave is what all passes leave of the tables at first.
pub record Before (drawing : Drawing) (marks : Marks) (heads : Heads) (ns : List ℕ) (c : Counts) (ks es₀ es : List ℕ) (hint : Cursor) : Type 0 where
  pub mendable : Mendable drawing marks heads ns es c hint
  pub long : length es ≡ length es₀
  pub same : applied (seen_of ns es c) (passes_on drawing.characters.now (values_of drawing) ks (seen_of ns es c))
      ≡ applied (seen_of ns es₀ c) (passes_on drawing.characters.now (values_of drawing) (1 ∷ 2 ∷ 3 ∷ 4 ∷ 5 ∷ 6 ∷ []) (seen_of ns es₀ c))

module _ (drawing : Drawing) (marks : Marks) (heads : Heads) (ns : List ℕ) (c : Counts) (es₀ : List ℕ) where
  pub before-all : Checked drawing → Marked drawing marks → Tidy (length drawing.characters.now) (seen_of ns es₀ c)
      → Indexed drawing.characters.now (read_of ns es₀) heads c.nodes → (start : Cursor)
      → start ≡ at_start → Before drawing marks heads ns c (1 ∷ 2 ∷ 3 ∷ 4 ∷ 5 ∷ 6 ∷ []) es₀ es₀ start
  before-all h m g k start e = record {
    mendable = record {
      drawn = record { checked = h; marked = m; fit = start-fit drawing h start e };
      tidy = g;
      indexed = k;
    };
    long = refl;
    same = refl;
  }

  pub before-next : (k : ℕ) (ks es : List ℕ) (hint : Cursor) → Before drawing marks heads ns c (k ∷ ks) es₀ es hint
      → (es' : List ℕ) (n : Cursor)
      → seen_of ns es' c ≡ applied (seen_of ns es c) (pass_on drawing.characters.now (values_of drawing) k (seen_of ns es c)) → Fit drawing n
      → Before drawing marks heads ns c ks es₀ es' n
  unfolding passes_on
  before-next k ks es hint q es' n e f =
      let t : Tree = seen_of ns es c in
      let vs : List Value = values_of drawing in
      let cs : List Cut = pass_on drawing.characters.now vs k t in
      record {
        mendable = mend-on drawing marks heads ns es c cs es' e hint q.mendable n f;
        long = long-on drawing marks heads ns es c cs es' e ∙ q.long;
        same =
            ap (λ (u : Tree). applied u (passes_on drawing.characters.now vs ks u)) e
            ∙ sym (applied-more t cs (passes_on drawing.characters.now vs ks (applied t cs)))
            ∙ q.same;
      }

  -- The passes from one on, in a loop.
  pub before-first : Checked drawing → Marked drawing marks → Tidy (length drawing.characters.now) (seen_of ns es₀ c)
      → Indexed drawing.characters.now (read_of ns es₀) heads c.nodes → Before drawing marks heads ns c (up_from 1 6) es₀ es₀ at_start
  unfolding up_from
  before-first h m g k = before-all h m g k at_start refl

  pub before-turn : (i : ℕ) (es : List ℕ) → i < 6 → Before drawing marks heads ns c (up_from (i + 1) (6 - i)) es₀ es at_start
      → (k : ℕ) → k ≡ i + 1 → (es' : List ℕ)
      → seen_of ns es' c ≡ applied (seen_of ns es c) (pass_on drawing.characters.now (values_of drawing) k (seen_of ns es c))
      → Before drawing marks heads ns c (up_from (i + 1 + 1) (6 - (i + 1))) es₀ es' at_start
  unfolding up_from
  before-turn i es l q k d es' e =
      let n : 6 - i ≡ suc (6 - (i + 1)) = omega arith in
      before-next (i + 1) (up_from (i + 1 + 1) (6 - (i + 1))) es at_start
      (subst (λ (m : ℕ). Before drawing marks heads ns c (up_from (i + 1) m) es₀ es at_start) n q) es' at_start (rw d at e)
      q.mendable.drawn.fit

  pub before-none : (es : List ℕ) (hint : Cursor) → Before drawing marks heads ns c [] es₀ es hint
      → seen_of ns es c ≡ applied (seen_of ns es₀ c) (all_passes drawing.characters.now (values_of drawing) (seen_of ns es₀ c))
  unfolding passes_on applied
  before-none es hint q = q.same

  -- The last one is left.
  pub before_last : (i : ℕ) (es : List ℕ) → 5 ≤ i → i ≤ 5 → Before drawing marks heads ns c (up_from (i + 1) (6 - i)) es₀ es at_start
      → (es' : List ℕ) → seen_of ns es' c ≡ applied (seen_of ns es c) (pass_on drawing.characters.now (values_of drawing) 6 (seen_of ns es c))
      → Before drawing marks heads ns c [] es₀ es' at_start
  unfolding up_from
  before_last i es l h q es' e =
      let d : i ≡ 5 = omega arith in
      before-turn 5 es (omega arith) (subst (λ (x : ℕ). Before drawing marks heads ns c (up_from (x + 1) (6 - x)) es₀ es at_start) d q)
      6 refl es' e

-- THE LIST OF PASSES

pub pass-at : (i : ℕ) (d : Pass) → i < 5 → pass_number (get_or (PatternFill ∷ PatternStroke ∷ ClipPath ∷ Mask ∷ Filter ∷ []) i d) ≡ i + 1
pass-at zero d l = refl
pass-at (suc zero) d l = refl
pass-at (suc (suc zero)) d l = refl
pass-at (suc (suc (suc zero))) d l = refl
pass-at (suc (suc (suc (suc zero)))) d l = refl
pass-at (suc (suc (suc (suc (suc i))))) d l = absurd (omega arith)

-- THE REPAIRS

module _ (drawing : Drawing) (ns es₀ es : List ℕ) (c : Counts) (h : Checked drawing) (g : Tidy (length drawing.characters.now) (seen_of ns es₀ c)) where
  -- What all passes leave are the repairs, with any text.
  pub mended : seen_of ns es c ≡ applied (seen_of ns es₀ c) (all_passes drawing.characters.now (values_of drawing) (seen_of ns es₀ c)) → (bs : List ℕ)
      → tree_of ns es bs c ≡ repaired drawing.characters.now (values_of drawing) (tree_of ns es₀ bs c)
  unfolding repaired
  mended q bs =
      let t : Tree = seen_of ns es₀ c in
      let vs : List Value = values_of drawing in
      let bare = values-bare (length drawing.characters.now) (document drawing) (all-inside drawing.script.now drawing.characters.now h) in
      ap (with_text bs) (q ∙ ap (applied t) (sym (repairs-going-on (length drawing.characters.now) drawing.characters.now vs bare t g)))
      ∙ sym (repaired-text bs drawing.characters.now vs t)

-- NOTHING TO REPAIR

none_named : (t : Tree) (code n a : ℕ) → ((m : ℕ) → a ≤ m → m < a + n → is_named t code m ≡ false) → all_named t code (up_from a n) ≡ []
unfolding all_named up_from
none_named t code zero a h = refl
none_named t code (suc n) a h =
    rw (h a (omega arith) (omega arith), none_named t code n (a + 1) (λ m x y. h m (omega arith) (omega arith))) refl

neither : (a b : Bool) → or a b ≡ false → (a ≡ false) × (b ≡ false)
neither true b e = absurd (true≢false e)
neither false b e = (refl, e)

module _ (chars : List ℕ) (values : List Value) (t : Tree) where
  pass-bare : (k : ℕ) → k ≤ 5 → all_named t (element_of k) (up_from 0 t.node_count) ≡ [] → pass_on chars values k t ≡ []
  unfolding pass_on pairs_of going_on
  pass-bare k l e = rw (le-leb k 5 l, e) refl

  images-bare : all_named t EId.FeImage (up_from 0 t.node_count) ≡ [] → pass_on chars values 6 t ≡ []
  unfolding pass_on images_on
  images-bare e = rw e refl

  pass-quiet : (k : ℕ) (ks : List ℕ) → pass_on chars values k t ≡ []
      → applied t (passes_on chars values ks t) ≡ applied t (passes_on chars values (k ∷ ks) t)
  unfolding passes_on applied
  pass-quiet k ks e = rw e refl

pub unlinked : (chars : List ℕ) (values : List Value) (t : Tree) → ((i : ℕ) → i < t.node_count → is_linked t i ≡ false)
    → t ≡ applied t (all_passes chars values t)
unfolding passes_on applied
unlinked chars values t h =
    let fills = none EId.Pattern (λ i l. (first i l).0) in
    let clips = none EId.ClipPath (λ i l. (second i l).0) in
    let masks = none EId.Mask (λ i l. (third i l).0) in
    let filters = none EId.Filter (λ i l. (fourth i l).0) in
    let images = none EId.FeImage (λ i l. (fourth i l).1) in
    pass-quiet chars values t 6 [] (images-bare chars values t images)
    ∙ pass-quiet chars values t 5 (6 ∷ []) (pass-bare chars values t 5 (omega arith) filters)
    ∙ pass-quiet chars values t 4 (5 ∷ 6 ∷ []) (pass-bare chars values t 4 (omega arith) masks)
    ∙ pass-quiet chars values t 3 (4 ∷ 5 ∷ 6 ∷ []) (pass-bare chars values t 3 (omega arith) clips)
    ∙ pass-quiet chars values t 2 (3 ∷ 4 ∷ 5 ∷ 6 ∷ []) (pass-bare chars values t 2 (omega arith) fills)
    ∙ pass-quiet chars values t 1 (2 ∷ 3 ∷ 4 ∷ 5 ∷ 6 ∷ []) (pass-bare chars values t 1 (omega arith) fills)
  where
    first : (i : ℕ) → i < t.node_count → (is_named t EId.Pattern i ≡ false)
        × (or (is_named t EId.ClipPath i) (or (is_named t EId.Mask i) (or (is_named t EId.Filter i) (is_named t EId.FeImage i))) ≡ false)
    first i l = neither _ _ (h i l)

    second : (i : ℕ) → i < t.node_count → (is_named t EId.ClipPath i ≡ false)
        × (or (is_named t EId.Mask i) (or (is_named t EId.Filter i) (is_named t EId.FeImage i)) ≡ false)
    second i l = neither _ _ (first i l).1

    third : (i : ℕ) → i < t.node_count → (is_named t EId.Mask i ≡ false) × (or (is_named t EId.Filter i) (is_named t EId.FeImage i) ≡ false)
    third i l = neither _ _ (second i l).1

    fourth : (i : ℕ) → i < t.node_count → (is_named t EId.Filter i ≡ false) × (is_named t EId.FeImage i ≡ false)
    fourth i l = neither _ _ (third i l).1

    none : (code : ℕ) → ((i : ℕ) → i < t.node_count → is_named t code i ≡ false) → all_named t code (up_from 0 t.node_count) ≡ []
    none code k = none_named t code t.node_count 0 (λ m x y. k m (omega arith))
