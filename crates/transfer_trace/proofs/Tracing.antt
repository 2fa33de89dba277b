-- What is climbed is the path of the node that the place stands at: its cells tell it (`place-path`), and its numbers are from 1, since 0 names
-- nothing. The rows are those of the plan's rules, with what is known of each and their trees. Assumes nothing.
use Rattle.std.specs.Prelude.{Result, Ok, Err, Option}
use Prim.Native.Nat.{ℕ, zero, suc, ◌*◌, ◌<◌}
use native.Mathlib.Omega.{arith}
use mathlib.Core.Path.{◌≡◌, refl, sym, ap, ◌∙◌}
use mathlib.Core.List.{List, [], ◌∷◌}
use Rattle.std.proofs.lemmas.Option.{none-some}
use lib.ListN.{length, take}
use lib.Seq.{length-take-le}
use Rattle.refusal.specs.declared.Refusal.{Refusal}
use Rattle.plan.specs.Check.{rules_of, most_rules}
use Rattle.plan.proofs.Sound.{Plan, checked-plan}
use Rattle.reach.specs.Order.{Orders}
use Rattle.forest.specs.Forest.{Forest}
use Rattle.forest.specs.Expression.{expression}
use Rattle.forest.specs.Reference.{Path, label_at}
use Rattle.forest.specs.Position.{Named}
use Rattle.forest.specs.Walk.{cells_in, Begun, place_judged}
use Rattle.forest.proofs.Reach.{parent-named}
use Rattle.forest.proofs.Unfold.{expression-known}
use Rattle.model.proofs.Rules.{Agrees, facts-agree}
use Rattle.work_rows.specs.Rows.{work_length, row_length, first_rules, Within}
use Rattle.work_rows.specs.Order.{order_in}
use Rattle.work_rows.proofs.Rows.{within_both}
use Rattle.work_rows.proofs.Work.{beyond-work}
use Rattle.work_load.specs.Prepared.{Arrangeable}
use Rattle.count_passes.specs.Tally.{Ready}
use Rattle.facts.specs.Facts.{row_count, facts_in}
use Rattle.facts_load.specs.Filled.{Filled}
use Rattle.facts_load.proofs.Filling.{walked-rows}
use Rattle.letter_arrival.specs.declared.Standing.{Standing}
use Rattle.letter_moves.specs.Standing.{rules_kept, WalkedRows}
use Rattle.letter_moves.proofs.Valid.{good, fit}
use Rattle.letter_moves.proofs.Stands.{rows-held}
use Rattle.place_open.specs.Open.{OpensAt}
use Rattle.transfer_path.specs.CellSpot.{path_in}
use Rattle.transfer_path.proofs.CellSpots.{place-path}
use Rattle.tops_rows.specs.Tops.{at_tops, Topped, TopsKept}
use Rattle.tops_rows.proofs.Kept.{tops-kept, topped-rules}
use Rattle.transfer_climb.specs.Climb.{meaning, Traces}
use Rattle.transfer_trace.specs.Trace.{Counting, Climbable, Traceable, Origins}
use Rattle.transfer_trace.proofs.KeptFacts.{kept-filled, field-first}

-- a node's numbers are from 1
pub named-counting : {A : Type 0} (g : Forest A) (p : Path) → Named g p → Counting p
unfolding Counting label_at
named-counting g [] n = tt
named-counting g (zero ∷ p) (Named.node e) = absurd (none-some _ e)
named-counting g (suc i ∷ p) (Named.node e) = (omega arith, named-counting g p (parent-named (suc i) p e))

-- the path that is climbed is the place's
module _ {t : List ℕ} {n start : ℕ} {s : List ℕ} {r : ℕ} {h : Standing} (o : OpensAt t n start s r h) where
  rows : WalkedRows r t
  rows = o.place.rows

  agrees : (k : ℕ) → k < length (rules_kept t) → Agrees (facts_in t) (rules_kept t) k
  agrees k l = rw rows.facts_are (facts-agree (rules_kept t) k)

  climbed-path : path_in (facts_in t) (meaning t) (cells_in s h.used) ≡ o.path
  climbed-path =
      place-path (facts_in t) (expression (rules_kept t)) (fit rows.sound rows.closed (facts_in t) agrees)
      (expression-known rows.sound r rows.closed.below) (good rows.sound rows.closed (facts_in t) agrees) o.stood.named o.stood.same

  pub path-from : {path path' : List ℕ} {y : Option ℕ} → Traces path path' (path_in (facts_in t) (meaning t) (cells_in s h.used)) y
      → Origins (place_judged (rules_kept t) n start s) path path' (Ok y)
  path-from {path} {path'} {y} k =
      let k' : Traces path path' o.path y = rw climbed-path at k in
      record {
        same_length = k'.same_length;
        from = λ z e.
            rw (let q : z ≡ y = cc in q)
            (record {
              count = n;
              walked = r;
              at = o.path;
              begun = o.begun;
              counting = named-counting _ o.path o.stood.named;
              levels = k'.levels;
              far = k'.far;
            });
        refused = λ w e. absurd (let z : ◌≡◌ {A = ℕ} 0 1 = cc in let n : ⊥ = omega arith in n);
      }

pub none_from : {b : Begun} (path : List ℕ) {why : Refusal} → b ≡ Begun.refused why → Origins b path path (Err why)
none_from path {why} q =
    record {
      same_length = refl;
      from = λ z e. absurd (let z : ◌≡◌ {A = ℕ} 0 1 = cc in let n : ⊥ = omega arith in n);
      refused = λ w e. q ∙ ap Begun.refused (let z : why ≡ w = cc in z);
    }

-- the rows of an accepted plan, with their trees
module _ {plan : List ℕ} {n start : ℕ} {work cursor path : List ℕ} (L : Traceable plan n start work cursor path) where
  pub arrangeable : Arrangeable plan n work
  arrangeable = record { start = start; accepted = L.accepted; room = L.worked }

  whole : Plan most_rules plan n start
  whole = checked-plan plan n start L.accepted

  module _ {u : List ℕ} (rules : first_rules u n ≡ rules_of plan) (order : Orders (rules_of plan) (order_in u n)) (within : Within 0 (work_length * n) work u) where
    pub ready : Ready u n
    ready =
        let room = L.worked in
        let same = within.same_length in
        record { room = omega arith; ranged = rw rules whole.sound.in_range; order = rw rules order }

    module _ (f : Filled (rules_of plan) (take (row_length * n) u)) {v : List ℕ} (p : Topped n u v) where
      abbrev rows_of : List ℕ
      rows_of = take (row_length * n) v

      pub prefix-long : length rows_of ≡ row_length * n
      prefix-long =
          let room = L.worked in
          let one = within.same_length in
          let two = p.besides.beyond.same_length in
          length-take-le (row_length * n) v (omega arith)

      filled : Filled (rules_of plan) rows_of
      filled = let room = L.worked in let one = within.same_length in kept-filled (omega arith) p.besides f

      count : row_count rows_of ≡ n
      count = let l = prefix-long in omega arith

      counts : TopsKept rows_of (row_count rows_of)
      counts =
          let k : TopsKept v n = tops-kept (rw (sym rules) at whole.sound) p in
          let same : rules_kept rows_of ≡ first_rules v n = filled.rules ∙ sym (topped-rules p ∙ rules) in
          record {
            tells = λ j below.
                rw same
                (field-first (row_length * n) 2 v j at_tops (let c = count in omega arith) ∙ k.tells j (let c = count in omega arith));
          }

      walked : WalkedRows start rows_of
      walked = walked-rows whole.sound whole.ends filled

      pub climbable : Climbable start n rows_of cursor path
      climbable =
          record {
            openable = record { rows = walked; count = count; room = L.placed };
            counted = record {
              rank = walked.rank;
              sound = walked.sound;
              facts_are = walked.facts_are;
              closes = rows-held walked;
              counts = counts;
            };
            room = L.room;
          }

      pub origins-on : {path' : List ℕ} {x : Result (Option ℕ) Refusal} → Origins (place_judged (rules_kept rows_of) n start cursor) path path' x
          → Origins (place_judged (rules_of plan) n start cursor) path path' x
      origins-on o = rw filled.rules at o

      pub within_all : Within 0 (work_length * n) work v
      within_all = within_both within (beyond-work n p.besides.beyond)
