-- One node of a pass after another: what leads back to the element is cut, and the search goes on. Assumes nothing.
use mathlib.Core.Path.{◌≡◌, refl, sym, ap, ◌∙◌, subst}
use mathlib.Core.Bool.{Bool, true, false, false≢true}
use mathlib.Core.List.{List, [], ◌∷◌}
use mathlib.Core.Option.{Option, none, some}
use Prim.Native.Nat.{ℕ, zero, suc, ◌+◌, ◌-◌, ◌<◌, ◌≤◌}
use native.Mathlib.Omega.{arith}
use native.Mathlib.Decide.{ℕ_discrete}
use borrow.Author.Tests.{eqb-true, eq-eqb, ne_eqb, leb-true, leb-false}
use lib.Dec.{eqb, leb}
use Rattle.model.specs.Base.{pick, given}
use Rattle.model.specs.AId
use Rattle.model.specs.Drawing.{Part, Value, reading_of, readings_of}
use Rattle.model.specs.Tables.{Tree, entry_at, attribute_id, attribute_of, element_by_id, set_none}
use Rattle.model.specs.Repair.{up_from, link_kind, element_id, readings_of_attribute, link_of, paints_with, node_attribute}
use Rattle.model.specs.Repair.{cut_name, cut_at, apply_cut, applied}
use Rattle.model.proofs.Theorems.Whole.{cuts-tidy}
use Rattle.model.specs.Theorems.Kept.{Tidy}
use Rattle.model.proofs.Theorems.Kept.{attribute-any}
use Rattle.model.proofs.Theorems.Cuts as cuts
use Rattle.model.proofs.Theorems.Cuts.{by-id-kept, element-id-kept}
use Rattle.model.specs.Theorems.GoingOn.{passing, Without, leads_to, cuts_along}
use Rattle.model.proofs.Theorems.GoingOn.{cut-is, leads-without}
use Rattle.script.specs.declared.drawing.Drawing.{Drawing}
use Rattle.tree.specs.declared.Counts.{Counts}
use Rattle.tree.specs.Lent.{read_of, entries_of}
use Rattle.tree.proofs.Alike.{id_same}
use Rattle.leads.specs.Links.{values_of, Stands}
use Rattle.targets.specs.Targets.{seen_of, mark_of}
use Rattle.targets.proofs.Marks.{mark-leads-link, mark-leads-paint}
use Rattle.std.proofs.Common as common
use Rattle.std.proofs.Common.{Some, None}
use Rattle.tree.specs.Lent.{plus_one}
use Rattle.targets.specs.Pass.{pass_number}
use Rattle.cuts.specs.declared.Aim.{Aim}
use Rattle.cuts.specs.Seen.{key_of, Aimed, cut_back, cut_nodes}
use Rattle.leads.proofs.Lasting.{last-absent}

-- WHAT IS READ

-- The entry of an id can be read.
pub id-stands : (size : ℕ) (t : Tree) → Tidy size t → (i : ℕ) (o : common.Option ℕ) → plus_one o ≡ attribute_id t i AId.Id
    → Stands size (entries_of t.attributes) o
unfolding entry_at
id-stands size t g i None e = tt
id-stands size t g i (Some j) e =
    let h = attribute-any size t g.kept g.unused i AId.Id (λ x. let z : j + 1 ≡ 0 = e ∙ x in omega (arith, z)) in
    let l : j < t.attribute_count = omega (arith, e, h) in
    (omega (arith, l, g.kept.fits.entries), (g.kept.entries j l).inside)

-- Whether node m leads to the element is told by its mark.
pub leads-marked : (chars : List ℕ) (values : List Value) (t : Tree) (aim : Aim) → Aimed chars t aim → (m : ℕ)
    → leads_to chars values (pass_number aim.pass) t aim.element m ≡ eqb (mark_of chars values (pass_number aim.pass) t m) aim.key
unfolding key_of
leads-marked chars values t aim w m = go (leb (pass_number aim.pass) 2) refl (λ z. w.some (w.key ∙ z))
  where
    k : ℕ
    k = (pass_number aim.pass)

    i : ℕ
    i = aim.element

    by_key : (x : ℕ) → key_of chars k t i ≡ x → leads_to chars values k t i m ≡ eqb (mark_of chars values k t m) x
        → leads_to chars values k t i m ≡ eqb (mark_of chars values k t m) aim.key
    by_key x e q = q ∙ ap (eqb (mark_of chars values k t m)) (sym (w.key ∙ e))

    other : (b : Bool) → (pick b (λ v. 0) (λ v. i + 2) ≡ 0 → ⊥) → pick b (λ v. 0) (λ v. i + 2) ≡ i + 2
    other true z = absurd (z refl)
    other false z = refl

    go : (b : Bool) → leb k 2 ≡ b → (key_of chars k t i ≡ 0 → ⊥)
        → leads_to chars values k t i m ≡ eqb (mark_of chars values k t m) aim.key
    go true e z =
        by_key _ (rw e refl) (mark-leads-paint chars values k w.first (leb-true k 2 e) t i m w.inside)
    go false e z =
        by_key (i + 2) (rw e (other (eqb (attribute_id t i AId.Id) 0) (rw e at z)))
        (mark-leads-link chars values k (omega (arith, leb-false k 2 e)) w.last t i m)

-- An element to which no link can lead.
pub never-led : (chars : List ℕ) (values : List Value) (k : ℕ) → 1 ≤ k → k ≤ 5 → (t : Tree) (i : ℕ) → key_of chars k t i ≡ 0 → (m : ℕ)
    → leads_to chars values k t i m ≡ false
unfolding key_of leads_to node_attribute element_by_id
never-led chars values k f l t i z m = go (leb k 2) z
  where
    n : ℕ
    n = element_by_id chars t (element_id chars t i)

    any : (b : Bool) → pick b (λ v. 1) (λ v. n + 1) ≡ 0 → ⊥
    any true e = omega arith
    any false e = omega arith

    at : (o : Option Part) → attribute_id t i AId.Id ≡ 0 → eqb (given o (λ v. element_by_id chars t v.bytes) (λ u. 0)) (i + 1) ≡ false
    at none e = ne_eqb 0 (i + 1) (λ q. omega arith)
    at (some v) e = sym (last-absent chars t i e v.bytes t.node_count)

    unled : (b : Bool) → eqb (attribute_id t i AId.Id) 0 ≡ b → pick b (λ v. 0) (λ v. i + 2) ≡ 0
        → eqb (given (link_of chars values (link_kind (cut_name k)) t (cut_name k) m) (λ v. element_by_id chars t v.bytes) (λ u. 0)) (i + 1)
        ≡ false
    unled true e q = at (link_of chars values (link_kind (cut_name k)) t (cut_name k) m) (eqb-true (attribute_id t i AId.Id) 0 e)
    unled false e q = absurd (omega (arith, q))

    go : (b : Bool)
        → pick b (λ u. pick (eqb n 0) (λ v. 1) (λ v. n + 1)) (λ u. pick (eqb (attribute_id t i AId.Id) 0) (λ v. 0) (λ v. i + 2)) ≡ 0
        → pick b (λ u. paints_with chars values t (cut_name k) (element_id chars t i) m)
        (λ u. eqb (given (link_of chars values (link_kind (cut_name k)) t (cut_name k) m) (λ v. element_by_id chars t v.bytes) (λ u. 0))
        (i + 1))
        ≡ false
    go true e = absurd (any (eqb n 0) e)
    go false e = unled (eqb (attribute_id t i AId.Id) 0) refl e

-- WHAT IS CUT

-- The tables behind a cut are those of the tree.
pub cut-seen : (ns es : List ℕ) (c : Counts) (k m : ℕ) (es' : List ℕ)
    → es' ≡ (apply_cut (read_of ns es) (cut_at (read_of ns es) k m)).attributes
    → seen_of ns es' c ≡ apply_cut (seen_of ns es c) (cut_at (seen_of ns es c) k m)
unfolding apply_cut cut_at set_none
cut-seen ns es c k m es' e =
    ap (λ (x : List ℕ). seen_of ns x c)
    (e ∙ ap (λ (j : ℕ). (pick (eqb j 0) (λ u. read_of ns es) (λ u. set_none (j - 1) (read_of ns es))).attributes)
    (id_same (seen_of ns es c) m (cut_name k)))
    ∙ go (eqb (attribute_id (seen_of ns es c) m (cut_name k)) 0)
  where
    j : ℕ
    j = attribute_id (seen_of ns es c) m (cut_name k)

    go : (b : Bool) → seen_of ns (pick b (λ u. read_of ns es) (λ u. set_none (j - 1) (read_of ns es))).attributes c
        ≡ pick b (λ u. seen_of ns es c) (λ u. set_none (j - 1) (seen_of ns es c))
    go true = refl
    go false = refl

-- One node: what is told of its link, and what is left behind it.
module _ (drawing : Drawing) (ns es : List ℕ) (c : Counts) (aim : Aim) (w : Aimed drawing.characters.now (seen_of ns es c) aim) (m : ℕ) where
  abbrev values : List Value
  values = values_of drawing

  -- Whether it leads back is what its mark says.
  pub back-told : (n : ℕ) → n ≡ mark_of drawing.characters.now values (pass_number aim.pass) (seen_of ns es c) m
      → leads_to drawing.characters.now values (pass_number aim.pass) (seen_of ns es c) aim.element m ≡ eqb n aim.key
  back-told n e = leads-marked drawing.characters.now values (seen_of ns es c) aim w m ∙ ap (λ (x : ℕ). eqb x aim.key) (sym e)

  pub back_cut : leads_to drawing.characters.now values (pass_number aim.pass) (seen_of ns es c) aim.element m ≡ true
      → (es' : List ℕ) → es' ≡ (apply_cut (read_of ns es) (cut_at (read_of ns es) (pass_number aim.pass) m)).attributes
      → seen_of ns es' c ≡ cut_back drawing.characters.now values (pass_number aim.pass) aim.element (seen_of ns es c) m
  back_cut e es' q = cut-seen ns es c (pass_number aim.pass) m es' q ∙ rw e refl

  pub back-kept : leads_to drawing.characters.now values (pass_number aim.pass) (seen_of ns es c) aim.element m ≡ false
      → seen_of ns es c ≡ cut_back drawing.characters.now values (pass_number aim.pass) aim.element (seen_of ns es c) m
  back-kept e = rw e refl

module _ (chars : List ℕ) (values : List Value) (k : ℕ) where
  -- A node without the attribute leads nowhere.
  pub leads-entry : (t : Tree) (i m : ℕ) → leads_to chars values k t i m ≡ true → attribute_id t m (cut_name k) ≡ 0 → ⊥
  unfolding leads_to paints_with node_attribute readings_of_attribute attribute_of reading_of
  leads-entry t i m e z = go (leb k 2) (rw (eq-eqb (attribute_id t m (cut_name k)) 0 z) at e)
    where
      go : (b : Bool) → pick b (λ u. false) (λ u. eqb 0 (i + 1)) ≡ true → ⊥
      go true y = false≢true y
      go false y = let q = eqb-true 0 (i + 1) y in omega arith

-- Behind m nothing else changes.
above_same : (f g : ℕ → Bool) (m : ℕ) → Without f g m → (n x : ℕ) → m < x → passing g (up_from x n) ≡ passing f (up_from x n)
unfolding passing up_from
above_same f g m w zero x h = refl
above_same f g m w (suc n) x h = rw (w.others x (λ e. omega arith), above_same f g m w n (x + 1) (omega arith)) refl

-- A cut where there is nothing to cut.
pub uncut : (t : Tree) (k m : ℕ) → attribute_id t m (cut_name k) ≡ 0 → apply_cut t (cut_at t k m) ≡ t
unfolding apply_cut cut_at
uncut t k m z = rw (eq-eqb (attribute_id t m (cut_name k)) 0 z) refl

module _ (size : ℕ) (chars : List ℕ) (values : List Value) (bare : readings_of 0 values ≡ []) (k : ℕ) (other : cut_name k ≡ AId.Id → ⊥)
    (t : Tree) (g : Tidy size t) (m : ℕ) where
  pub cut-tidy : Tidy size (apply_cut t (cut_at t k m))
  unfolding applied
  cut-tidy = cuts-tidy size t (cut_at t k m ∷ []) g

  key-kept : (attribute_id t m (cut_name k) ≡ 0 → ⊥) → (p i : ℕ)
      → key_of chars p (set_none (attribute_id t m (cut_name k) - 1) t) i ≡ key_of chars p t i
  unfolding key_of
  key-kept h p i =
      let u : Tree = set_none (attribute_id t m (cut_name k) - 1) t in
      let w : ℕ = element_by_id chars u (element_id chars u i) in
      ap (λ (j : ℕ). pick (leb p 2) (λ u. pick (eqb w 0) (λ v. 1) (λ v. w + 1)) (λ u. pick (eqb j 0) (λ v. 0) (λ v. i + 2)))
      (cuts.id_same (attribute_id t m (cut_name k) - 1) t i AId.Id)
      ∙ ap (λ (x : ℕ). pick (leb p 2) (λ u. pick (eqb x 0) (λ v. 1) (λ v. x + 1))
      (λ u. pick (eqb (attribute_id t i AId.Id) 0) (λ v. 0) (λ v. i + 2)))
      (by-id-kept size chars values bare t g m (cut_name k) h other (element_id chars u i)
      ∙ ap (element_by_id chars t) (element-id-kept size chars values bare t g m (cut_name k) h other i))

  pub cut-aimed : (aim : Aim) → Aimed chars t aim → Aimed chars (apply_cut t (cut_at t k m)) aim
  unfolding set_none
  cut-aimed aim w = go (ℕ_discrete (attribute_id t m (cut_name k)) 0)
    where
      go : Dec (attribute_id t m (cut_name k) ≡ 0) → Aimed chars (apply_cut t (cut_at t k m)) aim
      go (yes z) = subst (λ (u : Tree). Aimed chars u aim) (sym (uncut t k m z)) w
      go (no h) = subst (λ (u : Tree). Aimed chars u aim) (sym (cut-is size chars values bare k other t g m h)) (record {
        first = w.first;
        last = w.last;
        inside = w.inside;
        key = w.key ∙ sym (key-kept h (pass_number aim.pass) aim.element);
        some = w.some;
      })

module _ (size : ℕ) (chars : List ℕ) (values : List Value) (bare : readings_of 0 values ≡ []) (k i : ℕ) (other : cut_name k ≡ AId.Id → ⊥)
    (t : Tree) (g : Tidy size t) (m : ℕ) where
  -- What did not lead to the element does not behind a cut.
  pub cut-leads : (x : ℕ) → leads_to chars values k t i x ≡ false
      → leads_to chars values k (apply_cut t (cut_at t k m)) i x ≡ false
  cut-leads x e = go (ℕ_discrete (attribute_id t m (cut_name k)) 0) (ℕ_discrete x m)
    where
      go : Dec (attribute_id t m (cut_name k) ≡ 0) → Dec (x ≡ m) → leads_to chars values k (apply_cut t (cut_at t k m)) i x ≡ false
      go (yes z) d = rw (uncut t k m z) e
      go (no h) (yes d) =
          rw (cut-is size chars values bare k other t g m h, d) (leads-without size chars values bare k other t g m h i).gone
      go (no h) (no d) =
          rw (cut-is size chars values bare k other t g m h) ((leads-without size chars values bare k other t g m h i).others x d ∙ e)

  -- The node that is cut leads nowhere.
  pub cut-gone : (attribute_id t m (cut_name k) ≡ 0 → ⊥)
      → leads_to chars values k (apply_cut t (cut_at t k m)) i m ≡ false
  cut-gone h = rw (cut-is size chars values bare k other t g m h) (leads-without size chars values bare k other t g m h i).gone

  -- The tree behind m.
  abbrev next : Tree
  next = cut_back chars values k i t m

  pub back-cuts : next ≡ applied t (pick (leads_to chars values k t i m) (λ u. cut_at t k m ∷ []) (λ u. []))
  unfolding applied
  back-cuts = go (leads_to chars values k t i m)
    where
      go : (b : Bool) → pick b (λ u. apply_cut t (cut_at t k m)) (λ u. t) ≡ applied t (pick b (λ u. cut_at t k m ∷ []) (λ u. []))
      go true = refl
      go false = refl

  pub back-aimed : (aim : Aim) → Aimed chars t aim → Aimed chars next aim
  back-aimed aim w = go (leads_to chars values k t i m)
    where
      go : (b : Bool) → Aimed chars (pick b (λ u. apply_cut t (cut_at t k m)) (λ u. t)) aim
      go true = cut-aimed size chars values bare k other t g m aim w
      go false = w

  -- Behind m, m leads nowhere, and what did not lead back before does not.
  pub back-still : (x : ℕ) → ((x ≡ m → ⊥) → leads_to chars values k t i x ≡ false) → leads_to chars values k next i x ≡ false
  back-still x h = go (leads_to chars values k t i m) refl (ℕ_discrete x m)
    where
      go : (b : Bool) → leads_to chars values k t i m ≡ b → Dec (x ≡ m)
          → leads_to chars values k (pick b (λ u. apply_cut t (cut_at t k m)) (λ u. t)) i x ≡ false
      go true e (yes d) = rw d (cut-gone (leads-entry chars values k t i m e))
      go true e (no d) = cut-leads x (h d)
      go false e (yes d) = rw d e
      go false e (no d) = h d

  -- The cuts of m and of the nodes behind it are those of the nodes behind it, in the tree behind m.
  pub back-turn : (n : ℕ) → cut_nodes chars values k t (passing (leads_to chars values k t i) (m ∷ up_from (m + 1) n))
      ≡ cut_nodes chars values k next (passing (leads_to chars values k next i) (up_from (m + 1) n))
  unfolding passing cuts_along applied
  back-turn n = go (leads_to chars values k t i m) refl
    where
      f : Tree → ℕ → Bool
      f u = leads_to chars values k u i

      xs : List ℕ
      xs = up_from (m + 1) n

      go : (b : Bool) → leads_to chars values k t i m ≡ b
          → cut_nodes chars values k t (pick b (λ u. m ∷ passing (f t) xs) (λ u. passing (f t) xs))
          ≡ cut_nodes chars values k (pick b (λ u. apply_cut t (cut_at t k m)) (λ u. t))
          (passing (f (pick b (λ u. apply_cut t (cut_at t k m)) (λ u. t))) xs)
      go false e = refl
      go true e =
          let h = leads-entry chars values k t i m e in
          let c = cut-is size chars values bare k other t g m h in
          let s = above_same _ _ m (leads-without size chars values bare k other t g m h i) n (m + 1) (omega arith) in
          ap (λ (ms : List ℕ). cut_nodes chars values k (apply_cut t (cut_at t k m)) ms)
          (sym s ∙ ap (λ (u : Tree). passing (f u) xs) (sym c))
