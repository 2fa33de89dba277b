-- Laws of links: the row which cells end in, what a link leads to, and that a write to one leaves the cells and the other links.
-- Assumes nothing.
use Prim.Native.Nat.{ℕ, zero, suc, ◌+◌, ◌-◌, ◌≤◌, ◌<◌}
use native.Mathlib.Omega.{arith}
use native.Mathlib.Decide.{dec_lt}
use mathlib.Core.Path.{◌≡◌, refl, sym, ap, ◌∙◌}
use mathlib.Core.List.{List, [], ◌∷◌}
use lib.ListN.{length}
use lib.Dec.{eqb}
use borrow.Author.Tests.{eq-eqb, ne_eqb, eqb-true, eqb-false}
use Rattle.words.specs.Put.{put}
use Rattle.words.specs.Within.{Within}
use Rattle.words.proofs.Laws.{length-put, put_same, put_other}
use Rattle.words.proofs.Within.{within_none, within_both, within_wider, within-number, within-number-put}
use Rattle.record.specs.Record.{word_length}
use Rattle.forest.specs.Place.{Cell, Cells, cell_row}
use Rattle.forest.specs.Walk.{cell_at, cells_in}
use Rattle.forest.proofs.Cases.{by_bool}
use Rattle.work_rows.specs.Rows.{row_length}
use Rattle.place_cells.proofs.Stack.{cells-top}
use Rattle.place_cells.proofs.Writes.{length-cells, cells-before}
use Rattle.row_links.specs.Links.{row_on, link_at, link, Linkable, RowLinks, Linked, Relinked, opens_row}

-- whether a cell opens a row
by_kind : {P : Type 0} (x : ℕ) → (x ≡ cell_row → P) → ((x ≡ cell_row → ⊥) → P) → P
by_kind x f g = by_bool (eqb x cell_row) (λ u. f (eqb-true x cell_row u)) (λ u. g (eqb-false x cell_row u))

-- the row which cells end in, by the last: it is one of them
pub row_first : (c : Cell) (cs : Cells) → c.0 ≡ cell_row → row_on (c ∷ cs) ≡ suc (length cs)
unfolding row_on
row_first c cs e = rw (eq-eqb _ _ e)

pub row-rest : (c : Cell) (cs : Cells) → (c.0 ≡ cell_row → ⊥) → row_on (c ∷ cs) ≡ row_on cs
unfolding row_on
row-rest c cs e = rw (ne_eqb _ _ e)

pub row-long : (cs : Cells) → row_on cs ≤ length cs
unfolding row_on
row-long [] = omega arith
row-long (c ∷ cs) = by_kind c.0 (λ e. omega (arith, row_first c cs e)) (λ e. omega (arith, row-rest c cs e, row-long cs))

-- the same of cells 1 to k
pub row_here : (s : List ℕ) (k : ℕ) → (cell_at s (suc k)).0 ≡ cell_row → row_on (cells_in s (suc k)) ≡ suc k
unfolding cells_in
row_here s k e = row_first (cell_at s (suc k)) (cells_in s k) e ∙ ap suc (length-cells s k)

pub row_on_lem : (s : List ℕ) (k : ℕ) → ((cell_at s (suc k)).0 ≡ cell_row → ⊥) → row_on (cells_in s (suc k)) ≡ row_on (cells_in s k)
unfolding cells_in
row_on_lem s k e = row-rest (cell_at s (suc k)) (cells_in s k) e

pub row-most : (s : List ℕ) (k : ℕ) → row_on (cells_in s k) ≤ k
row-most s k = omega (arith, row-long (cells_in s k), length-cells s k)

-- and opens a row, if there is one
pub row_opens : (s : List ℕ) (k : ℕ) → 0 < row_on (cells_in s k) → (cell_at s (row_on (cells_in s k))).0 ≡ cell_row
unfolding row_on cells_in
row_opens s zero some = absurd (omega arith)
row_opens s (suc k) some =
    by_kind (cell_at s (suc k)).0
    (λ e. rw (row_here s k e) e)
    (λ e. let more : 0 < row_on (cells_in s k) = omega (arith, row_on_lem s k e) in rw (row_on_lem s k e) (row_opens s k more))

-- the cells above it open none
pub row_same : (s : List ℕ) (k j : ℕ) → j ≤ k → row_on (cells_in s k) ≤ j → row_on (cells_in s j) ≡ row_on (cells_in s k)
row_same s zero j few low = let e : j ≡ 0 = omega arith in rw e
row_same s (suc k) j few low =
    elim (dec_lt k j) as (λ (d : Dec (k < j)). row_on (cells_in s j) ≡ row_on (cells_in s (suc k))) [
      | yes all ↦ let e : j ≡ suc k = omega arith in rw e
      | no fewer ↦
          by_kind (cell_at s (suc k)).0
          (λ e. absurd (omega (arith, row_here s k e)))
          (λ e. row_same s k j (omega arith) (omega (arith, row_on_lem s k e)) ∙ sym (row_on_lem s k e))
    ]

-- links of fewer cells, and the link of one that opens a row
pub links-fewer : (t s : List ℕ) (k j : ℕ) → j ≤ k → RowLinks t s (cells_in s k) → RowLinks t s (cells_in s j)
unfolding RowLinks cells_in
links-fewer t s zero j few l = let e : j ≡ 0 = omega arith in rw e l
links-fewer t s (suc k) j few l =
    elim (dec_lt k j) as (λ (d : Dec (k < j)). RowLinks t s (cells_in s j)) [
      | yes all ↦ let e : j ≡ suc k = omega arith in rw e l
      | no fewer ↦ links-fewer t s k j (omega arith) l.1
    ]

link-top : (t s : List ℕ) (k : ℕ) → RowLinks t s (cells_in s (suc k)) → (cell_at s (suc k)).0 ≡ cell_row → link t s (suc k) ≡ row_on (cells_in s k)
unfolding RowLinks cells_in
link-top t s k l e = ap (λ (n : ℕ). link t s (suc n)) (sym (length-cells s k)) ∙ l.0 e

pub link-below : (t s : List ℕ) (k j : ℕ) → RowLinks t s (cells_in s k) → 0 < j → j ≤ k → (cell_at s j).0 ≡ cell_row → link t s j ≡ row_on (cells_in s (j - 1))
link-below t s k zero l some few e = absurd (omega arith)
link-below t s k (suc j) l some few e =
    let n : suc j - 1 ≡ j = omega arith in
    rw n (link-top t s j (links-fewer t s k (suc j) few l) e)

-- from the row which the first m of k cells end in, its link leads to the row below it
pub row_next : (t s : List ℕ) (k m row : ℕ) → RowLinks t s (cells_in s k) → m ≤ k → row ≡ row_on (cells_in s m) → 0 < row
    → link t s row ≡ row_on (cells_in s (row - 1))
row_next t s k m row l few e some =
    link-below t s k row l some (omega (arith, e, row-most s m)) (rw e (row_opens s m (omega (arith, e))))

-- links that are the same of other bytes
pub links-kept : (t s s' : List ℕ) (cs : Cells) → ((j : ℕ) → 0 < j → j ≤ length cs → link t s' j ≡ link t s j) → RowLinks t s cs → RowLinks t s' cs
unfolding RowLinks
links-kept t s s' [] same l = l
links-kept t s s' (c ∷ cs) same l =
    (λ e. same (suc (length cs)) (omega arith) (omega arith) ∙ l.0 e, links-kept t s s' cs (λ j some few. same j some (omega arith)) l.1)

-- cells and links lie apart also of fewer cells, and in other bytes as long
pub linkable-fewer : {t s : List ℕ} {k : ℕ} (j : ℕ) → j ≤ k → Linkable t s k → Linkable t s j
linkable-fewer j few p = record { apart = omega (arith, p.apart); room = p.room; small = omega (arith, p.small) }

pub linkable-kept : {t s s' : List ℕ} {k : ℕ} → length s' ≡ length s → Linkable t s k → Linkable t s' k
linkable-kept e p = record { apart = p.apart; room = rw e p.room; small = p.small }

-- a link that is written is read back, and the others stay
pub link-put : (t s : List ℕ) (k i v : ℕ) → Linkable t s k → v < 65536 → link t (put word_length s (link_at t i) v) i ≡ v
unfolding link
link-put t s k i v p small = put_same word_length s (link_at t i) v (omega (arith, p.room)) small

pub link-other : (t s : List ℕ) (k i j v : ℕ) → Linkable t s k → i ≤ k → j ≤ k → (i ≡ j → ⊥)
    → link t (put word_length s (link_at t i) v) j ≡ link t s j
unfolding link
link-other t s k i j v p one two differ = put_other word_length word_length s (link_at t i) v (link_at t j) (λ h. omega (arith, p.apart, differ))

-- nothing but links has changed
pub relinked : (t s s' : List ℕ) (k : ℕ) → Linkable t s k → Within (link_at t k) (length t + row_length) s s' → Relinked t k s s'
relinked t s s' k p w = record { cells = cells-before w k p.apart; within = w }

pub relinked-none : (t s : List ℕ) (k : ℕ) → Relinked t k s s
relinked-none t s k = record { cells = refl; within = within_none (link_at t k) (length t + row_length) s }

pub relinked-both : {t s s' s'' : List ℕ} {k : ℕ} → Relinked t k s s' → Relinked t k s' s'' → Relinked t k s s''
relinked-both p q = record { cells = q.cells ∙ p.cells; within = within_both p.within q.within }

pub relinked-more : (t s s' : List ℕ) (k j : ℕ) → Linkable t s k → j ≤ k → Relinked t j s s' → Relinked t k s s'
relinked-more t s s' k j p few q = relinked t s s' k p (within_wider (link_at t k) (length t + row_length) (omega arith) (omega arith) q.within)

pub relinked-put : (t s : List ℕ) (k i v : ℕ) → Linkable t s k → i ≤ k → Relinked t k s (put word_length s (link_at t i) v)
relinked-put t s k i v p few =
    relinked t s (put word_length s (link_at t i) v) k p
    (within-number-put word_length s (link_at t i) v (link_at t k) (length t + row_length) (omega arith) (omega (arith, p.apart)))

-- links stay where what has changed ends before them
pub link-after : (t : List ℕ) {s s' : List ℕ} {a e : ℕ} (j : ℕ) → Within a e s s' → e ≤ link_at t j → link t s' j ≡ link t s j
unfolding link
link-after t j w high = within-number w word_length (link_at t j) (λ h. high)

pub linked-after : (t : List ℕ) {s s' : List ℕ} {a e : ℕ} (cs : Cells) → Within a e s s' → e ≤ link_at t (length cs) → Linked t s cs → Linked t s' cs
linked-after t {s} {s'} cs w high l =
    record {
      top = link-after t 0 w (omega arith) ∙ l.top;
      rows = links-kept t s s' cs (λ j some few. link-after t j w (omega arith)) l.rows;
    }

-- a cell more that opens no row
pub linked-over : (t s : List ℕ) (c : Cell) (cs : Cells) → (c.0 ≡ cell_row → ⊥) → Linked t s cs → Linked t s (c ∷ cs)
unfolding RowLinks
linked-over t s c cs none l = record { top = l.top ∙ sym (row-rest c cs none); rows = (λ e. absurd (none e), l.rows) }

-- the first link written, to the row which cells end in
pub linked-top : (t s : List ℕ) (cs : Cells) (v : ℕ) → Linkable t s (length cs) → v ≡ row_on cs → RowLinks t s cs
    → Linked t (put word_length s (link_at t 0) v) cs
linked-top t s cs v p e l =
    record {
      top = link-put t s (length cs) 0 v p (omega (arith, e, row-long cs, p.small)) ∙ e;
      rows =
          links-kept t s (put word_length s (link_at t 0) v) cs
          (λ j some few. link-other t s (length cs) 0 j v p (omega arith) few (λ q. omega arith)) l;
    }

-- a cell more that opens a row
pub linked-row : (t s : List ℕ) (c : Cell) (cs : Cells) → Linkable t s (suc (length cs)) → c.0 ≡ cell_row → Linked t s cs
    → Linked t (opens_row t (suc (length cs)) s) (c ∷ cs)
unfolding opens_row RowLinks
linked-row t s c cs p e l =
    let i = suc (length cs) in
    let v = link t s 0 in
    let s' = put word_length s (link_at t i) v in
    let rest : RowLinks t s' cs = links-kept t s s' cs (λ j some few. link-other t s i i j v p (omega arith) (omega arith) (λ q. omega arith)) l.rows in
    let small : v < 65536 = omega (arith, l.top, row-long cs, p.small) in
    linked-top t s' (c ∷ cs) i (linkable-kept (length-put word_length s (link_at t i) v) p) (sym (row_first c cs e)) (λ q. link-put t s i i v p small ∙ l.top, rest)

pub relinked-opens : (t s : List ℕ) (i : ℕ) → Linkable t s i → Relinked t i s (opens_row t i s)
unfolding opens_row
relinked-opens t s i p =
    let s' = put word_length s (link_at t i) (link t s 0) in
    relinked-both (relinked-put t s i i (link t s 0) p (omega arith))
    (relinked-put t s' i 0 i (linkable-kept (length-put word_length s (link_at t i) (link t s 0)) p) (omega arith))

-- links of cells 1 to k: of fewer, by those there are, where the last row is among them, or with another first link
pub linked-fewer : (t s : List ℕ) (k j : ℕ) → j ≤ k → link t s 0 ≤ j → Linked t s (cells_in s k) → Linked t s (cells_in s j)
linked-fewer t s k j few low l =
    record { top = l.top ∙ sym (row_same s k j few (omega (arith, l.top))); rows = links-fewer t s k j few l.rows }

pub linked-keep : (t s : List ℕ) (k j v : ℕ) → Linkable t s k → j ≤ k → Linked t s (cells_in s k) → v ≡ row_on (cells_in s j)
    → Linked t (put word_length s (link_at t 0) v) (cells_in (put word_length s (link_at t 0) v) j) × Relinked t k s (put word_length s (link_at t 0) v)
linked-keep t s k j v p few l e =
    let r = relinked-put t s k 0 v p (omega arith) in
    let same : cells_in (put word_length s (link_at t 0) v) j ≡ cells_in s j = cells-before r.within j (omega (arith, p.apart)) in
    let q : Linkable t s (length (cells_in s j)) = rw (length-cells s j) (linkable-fewer j few p) in
    (rw same (linked-top t s (cells_in s j) v q e (links-fewer t s k j few l.rows)), r)

-- of none
pub linked-none : (t s : List ℕ) (k : ℕ) → Linkable t s k
    → Linkable t (put word_length s (link_at t 0) 0) k × Linked t (put word_length s (link_at t 0) 0) (cells_in (put word_length s (link_at t 0) 0) 0)
unfolding row_on cells_in RowLinks
linked-none t s k p = (linkable-kept (length-put word_length s (link_at t 0) 0) p, linked-top t s [] 0 (linkable-fewer 0 (omega arith) p) refl tt)

-- and with cell i, which opens no row or does
pub linked-past : (t s : List ℕ) (i : ℕ) → 0 < i → ((cell_at s i).0 ≡ cell_row → ⊥) → Linked t s (cells_in s (i - 1)) → Linked t s (cells_in s i)
linked-past t s i some none l = rw (cells-top s i some) (linked-over t s (cell_at s i) (cells_in s (i - 1)) none l)

pub linked-opens : (t s : List ℕ) (i : ℕ) → Linkable t s i → 0 < i → (cell_at s i).0 ≡ cell_row → Linked t s (cells_in s (i - 1))
    → Linked t (opens_row t i s) (cells_in (opens_row t i s) i)
linked-opens t s i p some e l =
    let n : suc (length (cells_in s (i - 1))) ≡ i = omega (arith, length-cells s (i - 1)) in
    let q : Linkable t s (suc (length (cells_in s (i - 1)))) = rw n p in
    let r : Linked t (opens_row t i s) (cell_at s i ∷ cells_in s (i - 1)) = rw n at (linked-row t s (cell_at s i) (cells_in s (i - 1)) q e l) in
    rw ((relinked-opens t s i p).cells, cells-top s i some) r
