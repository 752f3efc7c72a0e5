-- UTF-8: what is done to spaces leaves every sequence of bytes whole.
use Rattle.std.specs.Prelude.{ℕ, suc, ◌+◌, ◌-◌, ◌≤◌, ◌<◌, ◌≡◌, Bool, true, false, List, [], ◌∷◌, ◌++◌, eqb, leb, length}
use Rattle.std.proofs.Math.Path.{refl}
use Rattle.std.proofs.Common.{sym, ap, ◌∙◌, subst, arith, eqb-true, ne_eqb, leb-true, le-leb}
use Rattle.std.proofs.lemmas.Bool.{false≢true, eqb-false, lt-leb}
use Rattle.std.proofs.Math.Decide.{dec_lt}
use Rattle.std.proofs.Math.Seq.{slice}
use Rattle.model.specs.Base.{pick, and, among}
use Rattle.model.specs.Utf8.{Range, is_within, well_formed, begins, sequence_of, is_utf8_from, is_utf8}
use Rattle.model.specs.Drawing.{Source}
use Rattle.model.specs.Text.{XmlSpace, is_default, SPACE, converted, trim_text_after, trim_text, joined}
use Rattle.model.specs.Theorems.Sim.{Every}
use Rattle.model.proofs.Theorems.Sim.{and_left, and_right}

-- Bytes behind the first of a sequence are 128 at least.
abbrev AllHigh : List Range → Type 0
AllHigh [] = Unit {0}
AllHigh (r ∷ rs) = (128 ≤ r.first) × AllHigh rs

-- Rows whose bytes behind the first are so.
abbrev HighRows : List (List Range) → Type 0
HighRows [] = Unit {0}
HighRows ([] ∷ rows) = ⊥
HighRows ((f ∷ rs) ∷ rows) = AllHigh rs × HighRows rows

rows-high : HighRows well_formed
unfolding well_formed
rows-high = (
  tt,
  (
    (omega arith, tt),
    (
      (omega arith, (omega arith, tt)),
      (
        (omega arith, (omega arith, tt)),
        (
          (omega arith, (omega arith, tt)),
          (
            (omega arith, (omega arith, tt)),
            (
              (omega arith, (omega arith, (omega arith, tt))),
              (
                (omega arith, (omega arith, (omega arith, tt))),
                ((omega arith, (omega arith, (omega arith, tt))), tt),
              ),
            ),
          ),
        ),
      ),
    ),
  ),
)

-- BYTES

within-high : (b : ℕ) (r : Range) → 128 ≤ r.first → is_within b r ≡ true → 128 ≤ b
within-high b r h e = omega (arith, leb-true r.first b (and_left (leb r.first b) _ e))

low-out : (b : ℕ) (r : Range) → 128 ≤ r.first → b < 128 → is_within b r ≡ false
low-out b r h l = rw (lt-leb r.first b (omega arith)) refl

no_byte : (b k : ℕ) → 128 ≤ b → k < 128 → eqb b k ≡ false
no_byte b k h l = ne_eqb b k (λ e. omega arith)

high-stays : (b : ℕ) → 128 ≤ b → converted b ≡ b
unfolding converted among
high-stays b h = simp (no_byte b 13 h (omega arith), no_byte b 10 h (omega arith), no_byte b 9 h (omega arith))

low-stays : (b : ℕ) → b < 128 → converted b < 128
unfolding converted
low-stays b h = go (among b (13 ∷ 10 ∷ 9 ∷ []))
  where
    go : (c : Bool) → pick c (λ u. SPACE) (λ u. b) < 128
    go true = omega arith
    go false = h

-- A byte behind one that is no space is never dropped.
never-dropped : (d : Bool) (c p : ℕ) → eqb p SPACE ≡ false → and d (and (eqb c SPACE) (eqb c p)) ≡ false
never-dropped false c p h = refl
never-dropped true c p h = go (eqb c SPACE) refl
  where
    go : (x : Bool) → eqb c SPACE ≡ x → and x (eqb c p) ≡ false
    go true e = ne_eqb c p (λ q. eqb-false p SPACE h (sym q ∙ eqb-true c SPACE e))
    go false e = refl

kept_byte : (w : XmlSpace) (p b : ℕ) (bs : List ℕ) → eqb p SPACE ≡ false →
    trim_text_after w p (b ∷ bs) ≡ converted b ∷ trim_text_after w (converted b) bs
unfolding trim_text_after
kept_byte w p b bs h = rw (never-dropped (is_default w) (converted b) p h) refl

high_byte : (w : XmlSpace) (p b : ℕ) (bs : List ℕ) → 128 ≤ b → trim_text_after w p (b ∷ bs) ≡ b ∷ trim_text_after w b bs
unfolding trim_text_after
high_byte w p b bs h = simp (high-stays b h, no_byte b SPACE h (omega arith), off (is_default w))
  where
    off : (d : Bool) → and d false ≡ false
    off true = refl
    off false = refl

-- SEQUENCES

-- Two texts that begin with the same sequences of bytes behind a first one.
abbrev AlikeBehind : List ℕ → List ℕ → Type 0
AlikeBehind xs ys = (rs : List Range) → AllHigh rs → begins rs xs ≡ begins rs ys

trimmed-alike : (rs : List Range) → AllHigh rs → (w : XmlSpace) (p : ℕ) (bs : List ℕ) → eqb p SPACE ≡ false →
    begins rs (trim_text_after w p bs) ≡ begins rs bs
unfolding begins
trimmed-alike [] h w p bs e = refl
trimmed-alike (r ∷ rs) h w p [] e = nothing
  where
    nothing : begins (r ∷ rs) (trim_text_after w p []) ≡ false
    nothing = unfold trim_text_after in refl
trimmed-alike (r ∷ rs) h w p (b ∷ bs) e = go (dec_lt b 128) (λ f. trimmed-alike rs h.1 w (converted b) bs f)
  where
    go : Dec (b < 128) → (eqb (converted b) SPACE ≡ false → begins rs (trim_text_after w (converted b) bs) ≡ begins rs bs) →
        begins (r ∷ rs) (trim_text_after w p (b ∷ bs)) ≡ begins (r ∷ rs) (b ∷ bs)
    go (yes l) k = rw (kept_byte w p b bs e) (rw (low-out b r h.0 l, low-out (converted b) r h.0 (low-stays b l)) refl)
    go (no l) k =
        let g : 128 ≤ b = omega arith in
        let q = high-stays b g in
        rw (kept_byte w p b bs e) (rw (k (rw q (no_byte b SPACE g (omega arith))), q) refl)

rows_alike : (rows : List (List Range)) → HighRows rows → (b : ℕ) (xs ys : List ℕ) → AlikeBehind xs ys →
    sequence_of rows (b ∷ xs) ≡ sequence_of rows (b ∷ ys)
unfolding sequence_of begins
rows_alike [] h b xs ys a = refl
rows_alike ([] ∷ rows) h b xs ys a = absurd h
rows_alike ((f ∷ rs) ∷ rows) h b xs ys a = rw (a rs h.0, rows_alike rows h.1 b xs ys a) refl

-- What stands behind the first byte of a sequence.
record Found (n : ℕ) (xs : List ℕ) : Type 0 where
  pub ranges : List Range
  pub high : AllHigh ranges
  pub begun : begins ranges xs ≡ true
  pub long : n ≡ suc (length ranges)

found : (rows : List (List Range)) → HighRows rows → (b : ℕ) (xs : List ℕ) → eqb (sequence_of rows (b ∷ xs)) 0 ≡ false →
    Found (sequence_of rows (b ∷ xs)) xs
unfolding sequence_of begins
found [] h b xs e = absurd (false≢true (sym e))
found ([] ∷ rows) h b xs e = absurd h
found ((f ∷ rs) ∷ rows) h b xs e = first (is_within b f) refl (begins rs xs) refl e (found rows h.1 b xs)
  where
    first : (x : Bool) → is_within b f ≡ x → (y : Bool) → begins rs xs ≡ y →
        eqb (pick (pick x (λ u. y) (λ u. false)) (λ u. suc (length rs)) (λ u. sequence_of rows (b ∷ xs))) 0 ≡ false →
        (eqb (sequence_of rows (b ∷ xs)) 0 ≡ false → Found (sequence_of rows (b ∷ xs)) xs) →
        Found (pick (pick x (λ u. y) (λ u. false)) (λ u. suc (length rs)) (λ u. sequence_of rows (b ∷ xs))) xs
    first true p true q e k = record { ranges = rs; high = h.0; begun = q; long = refl }
    first true p false q e k = k e
    first false p y q e k = k e

low-sequence : (b : ℕ) (xs : List ℕ) → b < 128 → sequence_of well_formed (b ∷ xs) ≡ 1
unfolding sequence_of well_formed begins
low-sequence b xs h = rw (le-leb 0 b (omega arith), le-leb b 127 (omega arith)) refl

-- A byte below 128 is a sequence by itself.
low-utf8 : (b : ℕ) (xs : List ℕ) → b < 128 → is_utf8_from 0 (b ∷ xs) ≡ is_utf8_from 0 xs
unfolding is_utf8_from
low-utf8 b xs h = rw (low-sequence b xs h) refl

-- Another one begins a sequence, and the text goes on behind it.
high-utf8 : (b : ℕ) (xs : List ℕ) → is_utf8_from 0 (b ∷ xs) ≡ true →
    (f : Found (sequence_of well_formed (b ∷ xs)) xs) × (is_utf8_from (length f.ranges) xs ≡ true)
unfolding is_utf8_from
high-utf8 b xs h = go (eqb (sequence_of well_formed (b ∷ xs)) 0) refl h
  where
    go : (c : Bool) → eqb (sequence_of well_formed (b ∷ xs)) 0 ≡ c →
        pick c (λ u. false) (λ u. is_utf8_from (sequence_of well_formed (b ∷ xs) - 1) xs) ≡ true →
        (f : Found (sequence_of well_formed (b ∷ xs)) xs) × (is_utf8_from (length f.ranges) xs ≡ true)
    go true e g = absurd (false≢true g)
    go false e g =
        let f = found well_formed rows-high b xs e in
        let q : sequence_of well_formed (b ∷ xs) - 1 ≡ length f.ranges = omega (arith, f.long) in
        (f, subst (λ (n : ℕ). is_utf8_from n xs ≡ true) q g)

high-back : (b : ℕ) (xs ys : List ℕ) (f : Found (sequence_of well_formed (b ∷ xs)) xs) → AlikeBehind xs ys →
    is_utf8_from (length f.ranges) ys ≡ true →
    is_utf8_from 0 (b ∷ ys) ≡ true
unfolding is_utf8_from
high-back b xs ys f a h =
    let e : sequence_of well_formed (b ∷ ys) ≡ suc (length f.ranges) = sym (rows_alike well_formed rows-high b xs ys a) ∙ f.long in
    let z : suc (length f.ranges) - 1 ≡ length f.ranges = omega arith in
    rw (e, ne_eqb (suc (length f.ranges)) 0 (omega arith), z) h

-- What stands before may not be a space where a sequence goes on.
abbrev Ready : List Range → ℕ → Type 0
Ready [] p = Unit {0}
Ready (r ∷ rs) p = eqb p SPACE ≡ false

trimmed-from : (bs : List ℕ) (rs : List Range) (w : XmlSpace) (p : ℕ) → AllHigh rs → begins rs bs ≡ true →
    is_utf8_from (length rs) bs ≡ true → Ready rs p →
    is_utf8_from (length rs) (trim_text_after w p bs) ≡ true
unfolding begins is_utf8_from trim_text_after
trimmed-from [] rs w p h b u r = nothing
  where
    nothing : is_utf8_from (length rs) (trim_text_after w p []) ≡ true
    nothing = refl
trimmed-from (b ∷ bs) (x ∷ rs) w p h g u r = go (is_within b x) refl g (λ c k e. trimmed-from bs rs w b h.1 c u e)
  where
    ready : (rs : List Range) → 128 ≤ b → Ready rs b
    ready [] l = tt
    ready (y ∷ ys) l = no_byte b SPACE l (omega arith)

    go : (c : Bool) → is_within b x ≡ c → pick c (λ u. begins rs bs) (λ u. false) ≡ true →
        (begins rs bs ≡ true → Unit {0} → Ready rs b → is_utf8_from (length rs) (trim_text_after w b bs) ≡ true) →
        is_utf8_from (suc (length rs)) (trim_text_after w p (b ∷ bs)) ≡ true
    go true e c k =
        let l = within-high b x h.0 e in
        rw (high_byte w p b bs l) (k c tt (ready rs l))
    go false e c k = absurd (false≢true c)
trimmed-from (b ∷ bs) [] w p h g u r = go (dec_lt b 128)
    (λ v q. trimmed-from bs [] w q tt refl v tt)
    (λ rs f c v. trimmed-from bs rs w b f c v)
  where
    low : (c : Bool) → b < 128 → ((q : ℕ) → is_utf8_from 0 (trim_text_after w q bs) ≡ true) →
        is_utf8_from 0 (pick c (λ u. trim_text_after w p bs) (λ u. converted b ∷ trim_text_after w (converted b) bs)) ≡ true
    low true l k = k p
    low false l k = low-utf8 (converted b) (trim_text_after w (converted b) bs) (low-stays b l) ∙ k (converted b)

    ready : (rs : List Range) → 128 ≤ b → Ready rs b
    ready [] l = tt
    ready (y ∷ ys) l = no_byte b SPACE l (omega arith)

    go : Dec (b < 128) → (is_utf8_from 0 bs ≡ true → (q : ℕ) → is_utf8_from 0 (trim_text_after w q bs) ≡ true) →
        ((rs : List Range) → AllHigh rs → begins rs bs ≡ true → is_utf8_from (length rs) bs ≡ true → Ready rs b →
        is_utf8_from (length rs) (trim_text_after w b bs) ≡ true) →
        is_utf8_from 0 (trim_text_after w p (b ∷ bs)) ≡ true
    go (yes l) k m =
        low (and (is_default w) (and (eqb (converted b) SPACE) (eqb (converted b) p))) l (k (sym (low-utf8 b bs l) ∙ u))
    go (no l) k m =
        let n : 128 ≤ b = omega arith in
        let f = high-utf8 b bs u in
        rw (high_byte w p b bs n)
        (high-back b bs (trim_text_after w b bs) f.0 (λ rs a. sym (trimmed-alike rs a w b bs (no_byte b SPACE n (omega arith))))
        (m f.0.ranges f.0.high f.0.begun f.1 (ready f.0.ranges n)))

-- WITHOUT A LAST SPACE

last-alike : (rs : List Range) → AllHigh rs → (xs : List ℕ) → begins rs (xs ++ (SPACE ∷ [])) ≡ begins rs xs
unfolding begins
last-alike [] h xs = refl
last-alike (r ∷ rs) h [] = rw (low-out SPACE r h.0 (omega arith)) refl
last-alike (r ∷ rs) h (x ∷ xs) = rw (last-alike rs h.1 xs) refl

last-from : (xs : List ℕ) (rs : List Range) → AllHigh rs → begins rs (xs ++ (SPACE ∷ [])) ≡ true →
    is_utf8_from (length rs) (xs ++ (SPACE ∷ [])) ≡ true →
    is_utf8_from (length rs) xs ≡ true
unfolding begins is_utf8_from
last-from [] rs h g u = refl
last-from (b ∷ xs) (r ∷ rs) h g u = last-from xs rs h.1 (go (is_within b r) g) u
  where
    go : (c : Bool) → pick c (λ u. begins rs (xs ++ (SPACE ∷ []))) (λ u. false) ≡ true → begins rs (xs ++ (SPACE ∷ [])) ≡ true
    go true e = e
    go false e = absurd (false≢true e)
last-from (b ∷ xs) [] h g u = go (dec_lt b 128) (λ v. last-from xs [] tt refl v) (λ rs a c v. last-from xs rs a c v)
  where
    go : Dec (b < 128) → (is_utf8_from 0 (xs ++ (SPACE ∷ [])) ≡ true → is_utf8_from 0 xs ≡ true) →
        ((rs : List Range) → AllHigh rs → begins rs (xs ++ (SPACE ∷ [])) ≡ true → is_utf8_from (length rs) (xs ++ (SPACE ∷ [])) ≡ true →
        is_utf8_from (length rs) xs ≡ true) →
        is_utf8_from 0 (b ∷ xs) ≡ true
    go (yes l) k m = low-utf8 b xs l ∙ k (sym (low-utf8 b (xs ++ (SPACE ∷ [])) l) ∙ u)
    go (no l) k m =
        let f = high-utf8 b (xs ++ (SPACE ∷ [])) u in
        high-back b (xs ++ (SPACE ∷ [])) xs f.0 (λ rs a. last-alike rs a xs) (m f.0.ranges f.0.high f.0.begun f.1)

-- THEOREMS

-- A text that is UTF-8, as every text is that check takes, is UTF-8 after `trim_text`, under Default and Preserve.
pub trim-text-utf8 : (w : XmlSpace) (bs : List ℕ) → is_utf8 bs ≡ true → is_utf8 (trim_text w bs) ≡ true
unfolding is_utf8 trim_text
trim-text-utf8 w bs h = trimmed-from bs [] w 48 tt (unfold begins in refl) h tt

-- And so it is without a first space, and without a last one.
pub first-space-utf8 : (bs : List ℕ) → is_utf8 (SPACE ∷ bs) ≡ true → is_utf8 bs ≡ true
unfolding is_utf8
first-space-utf8 bs h = sym (low-utf8 SPACE bs (omega arith)) ∙ h

pub last-space-utf8 : (bs : List ℕ) → is_utf8 (bs ++ (SPACE ∷ [])) ≡ true → is_utf8 bs ≡ true
unfolding is_utf8
last-space-utf8 bs h = last-from bs [] tt (unfold begins in refl) h

-- ONE TEXT BEHIND ANOTHER

-- The rows' first bytes come in order, each range behind the one before.
abbrev Ordered : ℕ → List (List Range) → Type 0
Ordered m [] = Unit {0}
Ordered m ([] ∷ rows) = ⊥
Ordered m ((f ∷ rs) ∷ rows) = (m ≤ f.first) × (f.first ≤ f.last) × Ordered (suc f.last) rows

rows-ordered : Ordered 0 well_formed
unfolding well_formed
rows-ordered = (
  omega arith,
  omega arith,
  (
    omega arith,
    omega arith,
    (
      omega arith,
      omega arith,
      (
        omega arith,
        omega arith,
        (
          omega arith,
          omega arith,
          (omega arith, omega arith, (omega arith, omega arith, (omega arith, omega arith, (omega arith, omega arith, tt)))),
        ),
      ),
    ),
  ),
)

low-found : (rows : List (List Range)) (m : ℕ) → Ordered m rows → (b : ℕ) (xs : List ℕ) → eqb (sequence_of rows (b ∷ xs)) 0 ≡ false → m ≤ b
unfolding sequence_of begins
low-found [] m o b xs e = absurd (false≢true (sym e))
low-found ([] ∷ rows) m o b xs e = absurd o
low-found ((f ∷ rs) ∷ rows) m o b xs e = go (is_within b f) refl (begins rs xs) e (low-found rows (suc f.last) o.2 b xs)
  where
    go : (x : Bool) → is_within b f ≡ x → (y : Bool) →
        eqb (pick (pick x (λ u. y) (λ u. false)) (λ u. suc (length rs)) (λ u. sequence_of rows (b ∷ xs))) 0 ≡ false →
        (eqb (sequence_of rows (b ∷ xs)) 0 ≡ false → suc f.last ≤ b) → m ≤ b
    go true p true e k = omega (arith, o.0, leb-true f.first b (and_left (leb f.first b) _ p))
    go true p false e k = omega (arith, o.0, o.1, k e)
    go false p y e k = omega (arith, o.0, o.1, k e)

-- A sequence that is found is found again wherever its bytes behind the first stand.
record Again (rows : List (List Range)) (b : ℕ) (xs : List ℕ) : Type 0 where
  pub ranges : List Range
  pub high : AllHigh ranges
  pub begun : begins ranges xs ≡ true
  pub long : sequence_of rows (b ∷ xs) ≡ suc (length ranges)
  pub same : (z : List ℕ) → begins ranges z ≡ true → sequence_of rows (b ∷ z) ≡ suc (length ranges)

again : (rows : List (List Range)) (m : ℕ) → Ordered m rows → HighRows rows → (b : ℕ) (xs : List ℕ) →
    eqb (sequence_of rows (b ∷ xs)) 0 ≡ false →
    Again rows b xs
unfolding sequence_of begins
again [] m o h b xs e = absurd (false≢true (sym e))
again ([] ∷ rows) m o h b xs e = absurd h
again ((f ∷ rs) ∷ rows) m o h b xs e =
    go (is_within b f) refl (begins rs xs) refl e (λ k. low-found rows (suc f.last) o.2 b xs k)
    (λ k. again rows (suc f.last) o.2 h.1 b xs k)
  where
    go : (x : Bool) → is_within b f ≡ x → (y : Bool) → begins rs xs ≡ y →
        eqb (pick (pick x (λ u. y) (λ u. false)) (λ u. suc (length rs)) (λ u. sequence_of rows (b ∷ xs))) 0 ≡ false →
        (eqb (sequence_of rows (b ∷ xs)) 0 ≡ false → suc f.last ≤ b) → (eqb (sequence_of rows (b ∷ xs)) 0 ≡ false → Again rows b xs) →
        Again ((f ∷ rs) ∷ rows) b xs
    go true p true q e l k =
        record { ranges = rs; high = h.0; begun = q; long = rw (p, q) refl; same = λ z c. rw (p, c) refl }
    go true p false q e l k = absurd (omega (arith, l e, leb-true b f.last (and_right (leb f.first b) _ p)))
    go false p y q e l k =
        let g = k e in
        record { ranges = g.ranges; high = g.high; begun = g.begun; long = rw p g.long; same = λ z c. rw p (g.same z c) }

begins-more : (rs : List Range) (xs ys : List ℕ) → begins rs xs ≡ true → begins rs (xs ++ ys) ≡ true
unfolding begins
begins-more [] xs ys h = refl
begins-more (r ∷ rs) [] ys h = absurd (false≢true h)
begins-more (r ∷ rs) (x ∷ xs) ys h = go (is_within x r) h (begins-more rs xs ys)
  where
    go : (b : Bool) → pick b (λ u. begins rs xs) (λ u. false) ≡ true → (begins rs xs ≡ true → begins rs (xs ++ ys) ≡ true) →
        pick b (λ u. begins rs (xs ++ ys)) (λ u. false) ≡ true
    go true h k = k h
    go false h k = absurd (false≢true h)

append-from : (xs : List ℕ) (rs : List Range) (ys : List ℕ) → begins rs xs ≡ true → is_utf8_from (length rs) xs ≡ true →
    is_utf8_from 0 ys ≡ true →
    is_utf8_from (length rs) (xs ++ ys) ≡ true
unfolding begins is_utf8_from
append-from [] [] ys g u v = v
append-from [] (r ∷ rs) ys g u v = absurd (false≢true g)
append-from (b ∷ xs) (r ∷ rs) ys g u v = append-from xs rs ys (tail (is_within b r) g) u v
  where
    tail : (c : Bool) → pick c (λ u. begins rs xs) (λ u. false) ≡ true → begins rs xs ≡ true
    tail true h = h
    tail false h = absurd (false≢true h)
append-from (b ∷ xs) [] ys g u v = go (eqb (sequence_of well_formed (b ∷ xs)) 0) refl u (λ rs c w. append-from xs rs ys c w v)
  where
    go : (c : Bool) → eqb (sequence_of well_formed (b ∷ xs)) 0 ≡ c →
        pick c (λ u. false) (λ u. is_utf8_from (sequence_of well_formed (b ∷ xs) - 1) xs) ≡ true →
        ((rs : List Range) → begins rs xs ≡ true → is_utf8_from (length rs) xs ≡ true → is_utf8_from (length rs) (xs ++ ys) ≡ true) →
        is_utf8_from 0 (b ∷ (xs ++ ys)) ≡ true
    go true e w k = absurd (false≢true w)
    go false e w k =
        let f = again well_formed 0 rows-ordered rows-high b xs e in
        let q : suc (length f.ranges) - 1 ≡ length f.ranges = omega arith in
        rw (f.same (xs ++ ys) (begins-more f.ranges xs ys f.begun), ne_eqb (suc (length f.ranges)) 0 (omega arith), q)
        (k f.ranges f.begun (subst (λ (n : ℕ). is_utf8_from n xs ≡ true) (ap (λ (n : ℕ). n - 1) f.long ∙ q) w))

-- Two texts of UTF-8, one behind the other, are UTF-8.
pub append-utf8 : (xs ys : List ℕ) → is_utf8 xs ≡ true → is_utf8 ys ≡ true → is_utf8 (xs ++ ys) ≡ true
unfolding is_utf8
append-utf8 xs ys h g = append-from xs [] ys (unfold begins in refl) h g

-- The sources of a text node, one behind the other, where each is UTF-8.
pub joined-utf8 : (chars : List ℕ) (from : List Source) →
    Every (λ (a : Source). is_utf8 (slice a.start (a.start + a.size) chars) ≡ true) from →
    is_utf8 (joined chars from) ≡ true
unfolding joined
joined-utf8 chars [] h = unfold is_utf8 is_utf8_from in refl
joined-utf8 chars (a ∷ from) h = append-utf8 (slice a.start (a.start + a.size) chars) (joined chars from) h.0
    (joined-utf8 chars from h.1)
