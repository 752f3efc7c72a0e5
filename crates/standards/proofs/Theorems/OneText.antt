-- A text element with a single text node: its text is SVG 1.1's.
use Rattle.std.specs.Prelude.{ℕ, suc, ◌+◌, ◌*◌, ◌≤◌, ◌≡◌, Bool, length, take}
use Rattle.std.proofs.Math.Path.{refl, sym, ap}
use Rattle.std.proofs.Common.{◌∙◌, arith}
use Rattle.std.proofs.Math.Bool.{true, false}
use mathlib.Core.List.{List, [], ◌∷◌}
use borrow.Author.Tests.{eq-eqb, ne_eqb}
use Rattle.std.proofs.Math.Dec.{eqb}
use Rattle.model.specs.Base.{pick}
use Rattle.model.specs.Tables.{Tree, from_of, to_of, text_of}
use Rattle.model.specs.Text.{XmlSpace, default, preserve, SPACE, space_of, trim_text, Trimming, stop, run, TextNode, own_text_nodes}
use Rattle.model.specs.Text.{begins_with_space, ends_with_space, single, only_if, remove_first_space, remove_last_space, trimming}
use Rattle.model.specs.Text.{trim_text_nodes}
use Rattle.model.specs.Theorems.Reach.{Within}
use Rattle.model.proofs.Theorems.Reach.{within-trimming}
use Rattle.standards.specs.SvgSpace.{NEWLINE, BLANK, RETURN, convert, as_default, as_preserve}
use Rattle.standards.proofs.Theorems.Spaces.{no_first, no_last, preserve-is-standard, default-is-standard}
use Rattle.standards.proofs.Theorems.Trimmings.{cut_list, told, Placed, run-told}
use Rattle.standards.proofs.Theorems.Shaved.{first_off, last_off}

-- A space off the end, as a part of the list.
last-cut-off : (b : ℕ) (bs : List ℕ) → ends_with_space (b ∷ bs) ≡ true → no_last (b ∷ bs) ≡ take (length bs) (b ∷ bs)
unfolding no_last
last-cut-off b [] h = rw h refl
last-cut-off b (c ∷ bs) h = ap (λ r. b ∷ r) (last-cut-off c bs h)

last-stays : (b : ℕ) (bs : List ℕ) → ends_with_space (b ∷ bs) ≡ false → no_last (b ∷ bs) ≡ b ∷ bs
unfolding no_last
last-stays b [] h = rw h refl
last-stays b (c ∷ bs) h = ap (λ r. b ∷ r) (last-stays c bs h)

module _ (a : TextNode) (f : ℕ → List ℕ) where
  self : eqb a.node a.node ≡ true
  self = eq-eqb a.node a.node refl

  -- What `single` does, with the text that it looks at.
  looked : List ℕ → Trimming
  looked v = pick (eqb (length v) 1) (λ u. only_if (begins_with_space v) (remove_last_space a) stop)
      (λ u. only_if (begins_with_space v) (remove_first_space a) (only_if (ends_with_space v) (remove_last_space a) stop))

  looked-told : (v : List ℕ) → f a.node ≡ v → told (looked v) f a.node ≡ no_last (no_first v)
  unfolding told looked no_last
  looked-told [] e = e
  looked-told (b ∷ []) e = go (eqb b SPACE) refl
    where
      go : (c : Bool) → eqb b SPACE ≡ c → told (looked (b ∷ [])) f a.node ≡ no_last (no_first (b ∷ []))
      go true h = simp (h, self, e)
      go false h = simp h e
  looked-told (b ∷ c ∷ r) e = go (eqb b SPACE) (ends_with_space (b ∷ c ∷ r)) refl refl
    where
      long : eqb (length (b ∷ c ∷ r)) 1 ≡ false
      long = ne_eqb (suc (suc (length r))) 1 (omega arith)

      go : (x y : Bool) → eqb b SPACE ≡ x → ends_with_space (b ∷ c ∷ r) ≡ y →
          told (looked (b ∷ c ∷ r)) f a.node ≡ no_last (no_first (b ∷ c ∷ r))
      go true true h g = simp (long, h, g, self, e) (ap (cut_list 0 1) (first_off b (c ∷ r)) ∙ last_off c r ∙ sym (last-cut-off c r g))
      go true false h g = simp (long, h, g, self, e) (first_off b (c ∷ r) ∙ sym (last-stays c r g))
      go false true h g = simp (long, h, g, self, e) (last_off b (c ∷ r) ∙ sym (last-cut-off b (c ∷ r) g))
      go false false h g = simp (long, h, g, e) (sym (last-stays b (c ∷ r) g))

  single-told : told (single a) f a.node ≡ no_last (no_first (f a.node))
  unfolding told looked
  single-told = looked-told (f a.node) refl

-- What is asked of the tables: node i has its record, and its text lies in the text table. Every text node of a build has both.
abbrev pub HasText : Tree → ℕ → Type 0
HasText t i = (8 * i + 8 ≤ length t.nodes) × (from_of t i ≤ to_of t i) × (to_of t i ≤ length t.text)

-- A text element e whose only text node is a, in the state in which its end is reached; a's source is bs. The drawing
-- <text> a </text> meets it, with the space default, and so does <text><tspan> a </tspan></text>.
pub record OneText (chars : List ℕ) (t : Tree) (e : ℕ) (a : TextNode) (w : XmlSpace) (bs : List ℕ) : Type 0 where
  pub space : space_of chars t e ≡ w
  pub only : own_text_nodes chars t w e t.node_count ≡ a ∷ []
  pub held : HasText t a.node
  pub made : text_of t a.node ≡ trim_text w bs

module _ (chars : List ℕ) (t : Tree) (e : ℕ) (a : TextNode) (bs : List ℕ) where
  -- DEFAULT: the text of its text node is the standard's, of the source with newlines (and carriage returns) made spaces.
  pub one-text-default : OneText chars t e a default bs →
      text_of (trim_text_nodes chars e t) a.node ≡ as_default (convert NEWLINE BLANK (convert RETURN NEWLINE bs))
  unfolding trim_text_nodes trimming
  one-text-default h =
      rw (h.space, h.only) (run-told (λ i. i ≡ a.node) (single a) t (text_of t) within placed (λ j q. refl) a.node refl)
      ∙ single-told a (text_of t) ∙ ap (λ r. no_last (no_first r)) h.made ∙ default-is-standard bs
    where
      placed : Placed (λ i. i ≡ a.node) t
      placed = record { inside = λ i q. rw q h.held; apart = λ i j q r d. absurd (d (q ∙ sym r)) }

      within : Within (λ i. i ≡ a.node) (single a)
      within = within-trimming (λ i. i ≡ a.node) default (a ∷ []) (refl, tt)

  -- PRESERVE: it is the standard's text of the source, with carriage returns taken as newlines.
  pub one-text-preserve : OneText chars t e a preserve bs → text_of (trim_text_nodes chars e t) a.node
      ≡ as_preserve (convert RETURN NEWLINE bs)
  unfolding trim_text_nodes trimming run
  one-text-preserve h = rw (h.space, h.only) (h.made ∙ preserve-is-standard bs)
