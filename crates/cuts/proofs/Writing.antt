-- What a cut writes, and what cuts keep. Assumes nothing.
use mathlib.Core.Path.{◌≡◌, refl, sym, ap, ◌∙◌, subst}
use mathlib.Core.Bool.{Bool, true, false}
use mathlib.Core.List.{List, [], ◌∷◌, ◌++◌}
use Prim.Native.Nat.{ℕ, ◌+◌, ◌-◌, ◌*◌, ◌≤◌}
use native.Mathlib.Decide.{ℕ_discrete}
use native.Mathlib.Omega.{arith}
use borrow.Author.Tests.{eq-eqb, ne_eqb}
use lib.Dec.{eqb}
use lib.ListN.{length}
use lib.Seq.{length-sets}
use Rattle.model.specs.Base.{pick}
use Rattle.model.specs.AId
use Rattle.model.specs.Drawing.{readings_of}
use Rattle.model.specs.Tables.{Tree, entry_word, entry_at, value_at_entry, attribute_id, set_none}
use Rattle.model.specs.Repair.{element_id, Cut, cut_name, cut_entry, cut_at, apply_cut, applied}
use Rattle.model.specs.Theorems.Kept.{Tidy}
use Rattle.model.proofs.Theorems.Agree.{sets-out}
use Rattle.model.proofs.Theorems.Cuts as cuts
use Rattle.model.proofs.Theorems.Cuts.{element-id-kept}
use Rattle.model.proofs.Theorems.Whole.{cuts-tidy}
use Rattle.model.proofs.Theorems.Inside.{all-inside}
use Rattle.model.proofs.Theorems.Images.{values-bare}
use Rattle.ids.specs.declared.heads.Heads.{Heads}
use Rattle.script.specs.declared.drawing.Drawing.{Drawing}
use Rattle.script.specs.declared.cursor.Cursor.{Cursor}
use Rattle.script.specs.Step.{Fit, document}
use Rattle.tree.specs.declared.Counts.{Counts}
use Rattle.tree.specs.Lent.{read_of, entries_of}
use Rattle.tree.proofs.Alike.{id_same}
use Rattle.tree.proofs.Entries.{taken, one-less}
use Rattle.ids.specs.Chains.{Indexed}
use Rattle.ids.proofs.Chaining.{chained_same}
use Rattle.leads.specs.Links.{values_of}
use Rattle.targets.specs.Targets.{seen_of, Targeted}
use Rattle.targets.proofs.Passes.{no-id}
use Rattle.targets.proofs.Marks.{targeted-applied}
use Rattle.places.specs.declared.marks.Marks.{Marks}
use Rattle.cuts.specs.Seen.{Mendable, Cuttable}

module _ (t : Tree) (k i : ℕ) where
  -- The node has no such attribute.
  pub cut-none : 0 ≡ attribute_id t i (cut_name k) → t.attributes ≡ (apply_cut t (cut_at t k i)).attributes
  unfolding apply_cut cut_at
  cut-none e = rw (sym e) refl

  -- It has one.
  pub cut-some : (j : ℕ) → j + 1 ≡ attribute_id t i (cut_name k) → (es : List ℕ)
      → es ≡ (set_none j (entries_of t.attributes)).attributes → es ≡ (apply_cut t (cut_at t k i)).attributes
  unfolding apply_cut cut_at set_none
  cut-some j e es q = rw (taken j e, one-less j e) q

-- CUTS ONE AFTER ANOTHER

pub applied-more : (t : Tree) (cs ds : List Cut) → applied t (cs ++ ds) ≡ applied (applied t cs) ds
unfolding applied
applied-more t [] ds = refl
applied-more t (c ∷ cs) ds = applied-more (apply_cut t c) cs ds

-- Cuts leave the table as long as it was.
applied-long : (cs : List Cut) (t : Tree) → length (applied t cs).attributes ≡ length t.attributes
unfolding applied apply_cut set_none
applied-long [] t = refl
applied-long (c ∷ cs) t = applied-long cs (apply_cut t c) ∙ go (eqb (cut_entry t c.pass c.node) 0)
  where
    j : ℕ
    j = cut_entry t c.pass c.node

    go : (b : Bool) → length (pick b (λ u. t) (λ u. set_none (j - 1) t)).attributes ≡ length t.attributes
    go true = refl
    go false = length-sets t.attributes (5 * (j - 1) + 2) (1 ∷ 0 ∷ 0 ∷ [])

-- NO CUT TOUCHES AN ID

-- The ids of two trees are the same, and so is what stands behind importance.
pub record KeptIds (chars : List ℕ) (t u : Tree) : Type 0 where
  pub ids : (i : ℕ) → attribute_id u i AId.Id ≡ attribute_id t i AId.Id
  pub values : (i : ℕ) → element_id chars u i ≡ element_id chars t i
  pub words : (j : ℕ) → entry_word u j 1 ≡ entry_word t j 1

no-values : readings_of 0 [] ≡ []
unfolding readings_of
no-values = refl

module _ (size : ℕ) (chars : List ℕ) where
  ids-cut : (t : Tree) → Tidy size t → (x : Cut) → KeptIds chars t (apply_cut t x)
  unfolding apply_cut set_none
  ids-cut t g x = go (ℕ_discrete (cut_entry t x.pass x.node) 0)
    where
      j : ℕ
      j = cut_entry t x.pass x.node

      go : Dec (j ≡ 0) → KeptIds chars t (pick (eqb j 0) (λ u. t) (λ u. set_none (j - 1) t))
      go (yes z) =
          subst (λ (b : Bool). KeptIds chars t (pick b (λ u. t) (λ u. set_none (j - 1) t))) (sym (eq-eqb j 0 z))
          (record { ids = λ i. refl; values = λ i. refl; words = λ i. refl })
      go (no z) =
          subst (λ (b : Bool). KeptIds chars t (pick b (λ u. t) (λ u. set_none (j - 1) t))) (sym (ne_eqb j 0 z)) (record {
            ids = λ i. cuts.id_same (j - 1) t i AId.Id;
            values = λ i. element-id-kept size chars [] no-values t g x.node (cut_name x.pass) z (no-id x.pass) i;
            words = λ q. sets-out (1 ∷ 0 ∷ 0 ∷ []) t.attributes (5 * (j - 1) + 2) (5 * q + 1) (λ a b. omega arith);
          })

  pub ids-applied : (cs : List Cut) (t : Tree) → Tidy size t → KeptIds chars t (applied t cs)
  unfolding applied
  ids-applied [] t g = record { ids = λ i. refl; values = λ i. refl; words = λ i. refl }
  ids-applied (x ∷ cs) t g =
      let one = ids-cut t g x in
      let more = ids-applied cs (apply_cut t x) (cuts-tidy size t (x ∷ []) g) in
      record {
        ids = λ i. more.ids i ∙ one.ids i;
        values = λ i. more.values i ∙ one.values i;
        words = λ j. more.words j ∙ one.words j;
      }

-- The id of an element, in the tables as they are lent.
pub id-seen : (chars : List ℕ) (t : Tree) (i : ℕ) → element_id chars (read_of t.nodes t.attributes) i ≡ element_id chars t i
unfolding element_id entry_at
id-seen chars t i = ap (λ (j : ℕ). pick (eqb j 0) (λ u. []) (λ u. value_at_entry chars t j)) (id_same t i AId.Id)

-- What is asked still holds behind cuts, and the table is as long as it was.
module _ (drawing : Drawing) (marks : Marks) (heads : Heads) (ns es : List ℕ) (c : Counts) (cs : List Cut) (es' : List ℕ)
    (e : seen_of ns es' c ≡ applied (seen_of ns es c) cs) where
  indexed-on : Tidy (length drawing.characters.now) (seen_of ns es c) → Indexed drawing.characters.now (read_of ns es) heads c.nodes
      → Indexed drawing.characters.now (read_of ns es') heads c.nodes
  indexed-on g k = record {
    chained = λ z. chained_same drawing.characters.now (read_of ns es) (read_of ns es')
        (λ i. id_same u i AId.Id ∙ kept.ids i ∙ sym (id_same t i AId.Id))
        (λ i. id-seen drawing.characters.now u i ∙ kept.values i ∙ sym (id-seen drawing.characters.now t i))
        heads.last c.nodes (λ m l y. kept.words (attribute_id (read_of ns es) m AId.Id - 1)) (k.chained z);
  }
    where
      t : Tree
      t = seen_of ns es c

      u : Tree
      u = seen_of ns es' c

      kept : KeptIds drawing.characters.now t u
      kept = subst (KeptIds drawing.characters.now t) (sym e) (ids-applied (length drawing.characters.now) drawing.characters.now cs t g)

  pub mend-on : (hint : Cursor) → Mendable drawing marks heads ns es c hint → (n : Cursor) → Fit drawing n
      → Mendable drawing marks heads ns es' c n
  mend-on hint g n f = record {
    drawn = record { checked = g.drawn.checked; marked = g.drawn.marked; fit = f };
    tidy = subst (Tidy (length drawing.characters.now)) (sym e) (cuts-tidy (length drawing.characters.now) (seen_of ns es c) cs g.tidy);
    indexed = indexed-on g.tidy g.indexed;
  }

  pub long-on : length es' ≡ length es
  long-on = ap (λ (u : Tree). length u.attributes) e ∙ applied-long cs (seen_of ns es c)

  pub cuttable-on : (k : ℕ) → 1 ≤ k → k ≤ 5 → Cuttable drawing marks heads ns es c k → Cuttable drawing marks heads ns es' c k
  cuttable-on k f l g = record {
    mendable = mend-on _ g.mendable _ g.mendable.drawn.fit;
    targeted = λ z. subst (Targeted drawing.characters.now (values_of drawing) k) (sym e)
        (targeted-applied (length drawing.characters.now) drawing.characters.now (values_of drawing)
        (values-bare (length drawing.characters.now) (document drawing) (all-inside drawing.script.now drawing.characters.now g.mendable.drawn.checked)) k f l (seen_of ns es c)
        g.mendable.tidy (g.targeted z) cs);
  }
