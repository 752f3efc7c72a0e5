-- Chains and marks before the passes. Assumes nothing.
use mathlib.Core.Path.{◌≡◌, sym, ◌∙◌}
use mathlib.Core.Bool.{true, false, true≢false}
use mathlib.Core.List.{List}
use Prim.Native.Nat.{ℕ, ◌+◌, ◌<◌, ◌≤◌}
use native.Mathlib.Omega.{arith}
use native.Mathlib.Decide.{ℕ_discrete}
use Rattle.model.specs.Drawing.{Value}
use Rattle.model.specs.Tables.{is_named}
use Rattle.model.specs.Repair.{cut_name}
use Rattle.model.specs.Theorems.GoingOn.{element_of}
use Rattle.ids.specs.declared.heads.Heads.{Heads}
use Rattle.script.specs.declared.drawing.Drawing.{Drawing}
use Rattle.tree.specs.declared.Counts.{Counts}
use Rattle.tree.specs.Lent.{read_of}
use Rattle.ids.specs.Chains.{Like, Indexed}
use Rattle.ids.proofs.Likeness.{like-id}
use Rattle.leads.specs.Links.{values_of}
use Rattle.targets.specs.Targets.{seen_of, Targeted}
use Rattle.cuts.specs.Seen.{has_links}
use Rattle.repair.specs.Passes.{is_sought, Resolved}
use Rattle.repair.proofs.Passing.{links-same}

-- One pass more: it looks at no element with links, or its marks were stored.
module _ (chars : List ℕ) (values : List Value) (ns es : List ℕ) (c : Counts) (k : ℕ)
    (r : Resolved chars values (seen_of ns es c) k) (code a : ℕ) (d : code ≡ element_of k) (n : a ≡ cut_name k) where
  pub resolved-none : ((i : ℕ) → i < c.nodes → is_sought (seen_of ns es c) code a i ≡ false)
      → Resolved chars values (seen_of ns es c) (k + 1)
  resolved-none h = record { sought = λ p f l. go p f l (ℕ_discrete p k) }
    where
      both : (i : ℕ) → is_named (seen_of ns es c) (element_of k) i ≡ true → has_links (seen_of ns es c) (cut_name k) i ≡ true
          → is_sought (seen_of ns es c) code a i ≡ true
      both i x y = rw (d, n, x) y

      go : (p : ℕ) → 1 ≤ p → p < k + 1 → Dec (p ≡ k) → (i : ℕ) → i < c.nodes → is_named (seen_of ns es c) (element_of p) i ≡ true
          → has_links (seen_of ns es c) (cut_name p) i ≡ true → Targeted chars values p (seen_of ns es c)
      go p f l (yes e) i m x y = absurd (true≢false (sym (both i (rw e at x) (rw e at y)) ∙ h i m))
      go p f l (no e) i m x y = r.sought p f (omega arith) i m x y

  pub resolved-more : k ≤ 5 → (es' : List ℕ) → Like c.attributes es es' → Targeted chars values k (seen_of ns es' c)
      → ((p : ℕ) → 1 ≤ p → p ≤ 5 → (p ≡ k → ⊥) → Targeted chars values p (seen_of ns es c) → Targeted chars values p (seen_of ns es' c))
      → Resolved chars values (seen_of ns es' c) (k + 1)
  resolved-more high es' like w h = record { sought = λ p f l. go p f l (ℕ_discrete p k) }
    where
      go : (p : ℕ) → 1 ≤ p → p < k + 1 → Dec (p ≡ k) → (i : ℕ) → i < c.nodes → is_named (seen_of ns es' c) (element_of p) i ≡ true
          → has_links (seen_of ns es' c) (cut_name p) i ≡ true → Targeted chars values p (seen_of ns es' c)
      go p f l (yes e) i m x y = rw e w
      go p f l (no e) i m x y =
          let same = links-same ns es es' c (cut_name p) i (λ z. like-id c.attributes es es' like ns _ c z (cut_name p)) in
          h p f (omega arith) e (r.sought p f (omega arith) i m x (sym same ∙ y))

-- In the middle of the passes: pass k is next.
pub record Resolving (drawing : Drawing) (heads : Heads) (ns es₀ : List ℕ) (c : Counts) (es : List ℕ) (k : ℕ) : Type 0 where
  pub low : 1 ≤ k
  pub high : k ≤ 6
  pub like : Like c.attributes es₀ es
  pub indexed : Indexed drawing.characters.now (read_of ns es) heads c.nodes
  pub resolved : Resolved drawing.characters.now (values_of drawing) (seen_of ns es c) k
