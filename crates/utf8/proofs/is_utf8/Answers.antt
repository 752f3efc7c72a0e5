use Rattle.std.proofs.Common.{subst, ◌∙◌, ◌<◌, ◌≤◌, arith, rules, tests, ℕ, List, length, MatchOption, Option}
use Rattle.std.specs.List.{AllWithin, HoldsAt}
use Rattle.std.proofs.lemmas.Iterator.{IsFirst-from_position, YieldsList-from_slice}
use Rattle.model.specs.Utf8.{is_utf8}
use Rattle.utf8.proofs.Ascii.{reach-front, reach-all}
use Rattle.utf8.proofs.is_utf8.Goals as goal

-- What `position` found: the first byte that is not ASCII.
abbrev First : List ℕ → Option ℕ → Type 0
First s r = MatchOption r (AllWithin (λ b. b < 0x80) s 0 (length s))
    (λ i. (i < length s) × HoldsAt (λ b. 0x80 ≤ b) s i × AllWithin (λ b. b < 0x80) s 0 i)

pub returns-in-Some : goal.returns-in-Some
unfolding is_utf8
returns-in-Some c =
    let s = c.args.s.now in
    let first : First s c.position.result = IsFirst-from_position _ _ _ (λ b. 0x80 ≤ b) (λ b. b < 0x80) c.position.ensures.ran
    (YieldsList-from_slice s cc) (λ x q k. search (rules, tests)) (λ x q k. search (rules, tests)) in
    let at = subst (First s) c.in-Some.is first in
    c.is_utf8_from-in-Some.ensures ∙ (reach-front s c.in-Some.i (omega arith) at.2).same

pub returns-in-None : goal.returns-in-None
unfolding is_utf8
returns-in-None c =
    let s = c.args.s.now in
    let first : First s c.position.result = IsFirst-from_position _ _ _ (λ b. 0x80 ≤ b) (λ b. b < 0x80) c.position.ensures.ran
    (YieldsList-from_slice s cc) (λ x q k. search (rules, tests)) (λ x q k. search (rules, tests)) in
    reach-all s 0 (length s) (reach-front s (length s) (omega arith) (subst (First s) c.in-None.is first)) (omega arith)
