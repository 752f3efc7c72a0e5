-- A test that computes whether a node is spared by the exchange of a text, and that it is right where it passes.
use Rattle.std.specs.Prelude.{ℕ, zero, suc, ◌-◌, ◌≤◌, ◌≡◌, refl, Bool, true, false, not, List, [], ◌∷◌, eqb}
use Rattle.std.proofs.Common.{sym, ap, ◌∙◌, inl, inr, arith, eqb-true, eq-eqb, ne_eqb}
use Rattle.model.specs.Base.{pick, and, or, among}
use Rattle.model.specs.EId
use Rattle.model.specs.Tables.{Tree, ELEMENT, word, kind_of, code_of}
use Rattle.model.specs.Noted.{Note, sources, In}
use Rattle.model.specs.Under.{Under, here, up}
use Rattle.model.specs.Demand3.{Spared}
use Rattle.model.proofs.Theorems.Sim.{and_left, and_right}
use Rattle.model.proofs.Theorems.Entries.{absurd-bool}

-- Node i and the nodes above it, as many as n.
unfoldable pub upward : List ℕ → ℕ → ℕ → List ℕ
upward ns zero i = i ∷ []
upward ns (suc n) i = i ∷ pick (eqb (word ns i 1) 0) (λ u. []) (λ u. upward ns n (word ns i 1 - 1))

-- Does one of the notes stand under e and is made from text t?
unfoldable pub is_held : List Note → Tree → ℕ → ℕ → Bool
is_held [] s t e = false
is_held (x ∷ xs) s t e = or (and (among t (sources x)) (among e (upward s.nodes x.node x.node))) (is_held xs s t e)

-- Does none of these hold or quote text t, as a text element?
unfoldable pub none_holds : List Note → Tree → ℕ → List ℕ → Bool
none_holds ns s t [] = true
none_holds ns s t (e ∷ es) =
    and (not (and (and (eqb (kind_of s e) ELEMENT) (eqb (code_of s e) EId.Text)) (is_held ns s t e))) (none_holds ns s t es)

-- Node i stands under no text element that holds or quotes text t.
unfoldable pub is_spared : List Note → Tree → ℕ → ℕ → Bool
is_spared ns s t i = none_holds ns s t (upward s.nodes i i)

-- What a node stands under is among the nodes above it.
above : (ns : List ℕ) (e i n : ℕ) → i ≤ n → Under ns e i → among e (upward ns n i) ≡ true
unfolding upward among
above ns e i zero l here = rw (eq-eqb i i refl) refl
above ns e i (suc n) l here = rw (eq-eqb i i refl) refl
above ns e i zero l (up j p w b u) = absurd (omega arith)
above ns e i (suc n) l (up j p w b u) =
    let q : word ns i 1 - 1 ≡ p = omega (arith, w) in
    let z : eqb (word ns i 1) 0 ≡ false = ne_eqb (word ns i 1) 0 (λ y. omega (arith, w)) in
    rw (z, q) (go (eqb e i) (above ns e p n (omega arith) u))
  where
    go : (c : Bool) → among e (upward ns n p) ≡ true → pick c (λ u. true) (λ u. among e (upward ns n p)) ≡ true
    go true h = refl
    go false h = h

held : (ns : List Note) (s : Tree) (t e : ℕ) (x : Note) → In x ns → among t (sources x) ≡ true → Under s.nodes e x.node →
    is_held ns s t e ≡ true
unfolding is_held
held [] s t e x h a u = absurd h
held (y ∷ ys) s t e x (inl h) a u =
    rw (← h) (rw (a, above s.nodes e x.node x.node (omega arith) u) refl)
held (y ∷ ys) s t e x (inr h) a u = go (and (among t (sources y)) (among e (upward s.nodes y.node y.node))) (held ys s t e x h a u)
  where
    go : (c : Bool) → is_held ys s t e ≡ true → or c (is_held ys s t e) ≡ true
    go true h = refl
    go false h = h

none_of : (ns : List Note) (s : Tree) (t e : ℕ) (es : List ℕ) → none_holds ns s t es ≡ true → among e es ≡ true → kind_of s e ≡ ELEMENT →
    code_of s e ≡ EId.Text →
    is_held ns s t e ≡ true → ⊥
unfolding none_holds among
none_of ns s t e [] h a k c d = absurd-bool (sym a)
none_of ns s t e (x ∷ es) h a k c d =
    go (eqb e x) refl a (none_of ns s t e es (and_right (first x) (none_holds ns s t es) h))
  where
    first : ℕ → Bool
    first y = not (and (and (eqb (kind_of s y) ELEMENT) (eqb (code_of s y) EId.Text)) (is_held ns s t y))

    its_own : first e ≡ false
    its_own = rw (eq-eqb _ ELEMENT k, eq-eqb _ EId.Text c, d) refl

    go : (b : Bool) → eqb e x ≡ b → pick b (λ u. true) (λ u. among e es) ≡ true →
        (among e es ≡ true → kind_of s e ≡ ELEMENT → code_of s e ≡ EId.Text → is_held ns s t e ≡ true → ⊥) → ⊥
    go true y g r = absurd-bool (sym (and_left (first x) (none_holds ns s t es) h) ∙ ap first (sym (eqb-true e x y)) ∙ its_own)
    go false y g r = r g k c d

-- Where the test passes, the node is spared.
pub test-spared : (ns : List Note) (s : Tree) (t i : ℕ) → is_spared ns s t i ≡ true → Spared ns s t i
unfolding is_spared
test-spared ns s t i h e l x u d =
    let m = d.4 in
    none_of ns s t e (upward s.nodes i i) h (above s.nodes e i i (omega arith) u) x.0 x.1
    (held ns s t e m.0 m.1 m.3 (rw (← m.2) at d.3))
