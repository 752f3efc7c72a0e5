-- One attribute: the laws behind what is stored for it. Assumes nothing.
use Prim.Native.Nat.{ℕ, suc, ◌+◌, ◌-◌, ◌*◌}
use mathlib.Core.Path.{◌≡◌, refl, sym, ap, ◌∙◌}
use mathlib.Core.List.{List, [], ◌∷◌}
use mathlib.Core.Option.{Option}
use Rattle.std.proofs.Common as std
use Rattle.std.proofs.Common.{Some, None, Result, Ok}
use native.Mathlib.Omega.{arith}
use borrow.Author.Tests.{eq-eqb, ne_eqb}
use lib.ListN.{get_or, set}
use lib.Seq.{sets, set-get_or}
use Rattle.model.specs.AId
use Rattle.model.specs.Drawing.{part_at}
use Rattle.model.specs.Tables.{Entry, entry_at, find_entry}
use Rattle.model.specs.Theorems.Runs.{table_of}
use Rattle.model.specs.Element.{with_value, overwrite_href, with_more}
use Rattle.tree.specs.declared.Entry as T
use Rattle.entries.specs.declared.Place.{Place}
use Rattle.entries.specs.declared.Value.{Value}
use Rattle.entries.specs.Space.{Space, Leaves, so_far, resolved_of, value_in, attribute_of}
use Rattle.entries.proofs.Storing.{first-anew, same_entries}

-- Two words that stand there already, and others behind them.
own-two : (ats vs : List ℕ) (p a b : ℕ) → a ≡ get_or ats p 0 → b ≡ get_or ats (p + 1) 0 → sets ats p (a ∷ b ∷ vs) ≡ sets ats (p + 2) vs
own-two ats vs p a b e f =
    let s : suc p ≡ p + 1 = omega arith in
    let t : suc (suc p) ≡ p + 2 = omega arith in
    let one : set ats p a ≡ ats = ap (λ v. set ats p v) e ∙ set-get_or ats p 0 in
    let two : set ats (suc p) b ≡ ats = ap (λ k. set ats k b) s ∙ ap (λ v. set ats (p + 1) v) f ∙ set-get_or ats (p + 1) 0 in
    ap (λ l. sets (set l (suc p) b) (suc (suc p)) vs) one ∙ ap (λ l. sets l (suc (suc p)) vs) two ∙ ap (λ k. sets ats k vs) t

module _ (ats : List ℕ) (place : Place) (next : ℕ) (s : Space ats place next) where
  module _ (j : ℕ) (found : j + 1 ≡ find_entry (table_of ats) AId.Href place.first (next - place.first)) (space : ℕ) (v : Value) where
    abbrev over : List Entry
    over = overwrite_href (attribute_of [] AId.Href space v) (so_far ats place next)

    pub href-over : space ≡ 0 → (m : List ℕ) → m ≡ sets ats (5 * j + 2) (v.start ∷ v.size ∷ v.command ∷ []) →
        Leaves ats place over (Ok next) m
    unfolding entry_at part_at
    href-over z m h =
        let q : 5 * j + 0 ≡ 5 * j = omega arith in
        rw (eq-eqb space 0 z)
        (first-anew ats place next s AId.Href j found (with_value (value_in [] v)) m
        (h ∙ sym (own-two ats (v.start ∷ v.size ∷ v.command ∷ []) (5 * j) _ _ (ap (λ k. get_or ats k 0) q) refl)))

    pub href-skipped : (space ≡ 0 → ⊥) → Leaves ats place over (Ok next) ats
    href-skipped z = rw (ne_eqb space 0 z) (same_entries ats place next s)

  module _ (r : std.Option T.Entry) (o : Option Entry) (told : resolved_of r ≡ o) where
    pub more-none : r ≡ None → Leaves ats place (with_more (so_far ats place next) o) (Ok next) ats
    more-none h = rw (← told, h) (same_entries ats place next s)
