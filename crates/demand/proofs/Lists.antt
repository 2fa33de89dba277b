-- Demand 3 over a list of calls, from what each call comes to: by induction over the list, with the cursor at the finger's path
-- before each call. Assumes nothing.
use Rattle.std.specs.Prelude.{Ok}
use Prim.Native.Nat.{ℕ}
use mathlib.Core.Path.{◌≡◌, refl, sym, ap, ap₂, ◌∙◌, subst}
use mathlib.Core.Bool.{Bool, true, false, ◌||◌, false≢true}
use mathlib.Core.List.{List, [], ◌∷◌, ◌++◌, map, map-append}
use Rattle.rule.specs.Sound.{Closed}
use Rattle.plan.specs.Check.{checked, rules_of}
use Rattle.forest.specs.Forest.{Forest, forest}
use Rattle.forest.specs.Place.{Cell, Placed, placed_forest}
use Rattle.forest.specs.Reference.{Path, label_at, answers, path_after}
use Rattle.forest.specs.Walk.{letters_of, cells_in, used_cells, rule_word, walked_rule, place_at, cells_of, answer_word}
use Rattle.forest.specs.Position.{Named}
use Rattle.demand.specs.Calls.{Call, Left, lent, walk_of, lefts, cursor_after_calls}
use Rattle.demand.specs.Demand.{turned_down, is_refused, finger_path, finger_answers, walk_answers, some_accepted, ClearPast, Above, SameButSixteen, later_words, Meets, Demand3}
use Rattle.demand.proofs.Walkable.{Walkable, Stands}
use Rattle.demand.proofs.Plans.{walkable}
use Rattle.demand.proofs.OneCall.{Came, one-call, named-after, same_move, place_short, stands-used}

module _ (s : List ℕ) (n start : ℕ) (first : List ℕ) (accepted : checked s ≡ Ok (record { n = n; start = start })) (r : ℕ) (names : walked_rule start first ≡ r) (C : Closed (rules_of s) r) where
  abbrev g : Forest ℕ
  g = forest (rules_of s) r

  abbrev G : Forest Placed
  G = placed_forest (rules_of s) r

  abbrev W : Walkable n g G
  W = walkable s n start accepted r C

  -- what the calls left, from a cursor at the node at p; was says whether an earlier call was accepted
  pub record Went (cursor : List ℕ) (p : Path) (was : Bool) (calls : List Call) : Type 0 where
    pub refused : map (λ (l : Left). is_refused l.answer) (lefts walk_of s cursor calls) ≡ map (turned_down n first) calls
    pub answered : walk_answers calls (lefts walk_of s cursor calls) ≡ map answer_word (finger_answers g (turned_down n first) calls p)
    pub stands : Stands G first (cursor_after_calls walk_of s cursor calls) (finger_path g (turned_down n first) calls p)
    pub clear : (was || some_accepted (lefts walk_of s cursor calls)) ≡ true → ClearPast n (used_cells (cursor_after_calls walk_of s cursor calls)) (cursor_after_calls walk_of s cursor calls)

  none-went : (cursor : List ℕ) (p : Path) (was : Bool) → Stands G first cursor p → (was ≡ true → ClearPast n (used_cells cursor) cursor) → Went cursor p was []
  unfolding lefts walk_answers finger_answers finger_path cursor_after_calls some_accepted
  none-went cursor p was S k = record { refused = refl; answered = refl; stands = S; clear = λ e. k (or-none was e) }
    where
      or-none : (b : Bool) → (b || false) ≡ true → b ≡ true
      or-none true e = refl
      or-none false e = e

  more-went : (cursor : List ℕ) (p : Path) (was : Bool) (c : Call) (cs : List Call) → Came s n g G first cursor p c (walk_of (lent s cursor c))
      → Stands G first cursor p → (was ≡ true → ClearPast n (used_cells cursor) cursor)
      → ((x : List ℕ) (q : Path) (b : Bool) → Stands G first x q → (b ≡ true → ClearPast n (used_cells x) x) → Went x q b cs)
      → Went cursor p was (c ∷ cs)
  unfolding lefts walk_answers finger_answers finger_path cursor_after_calls some_accepted
  more-went cursor p was c cs (Came.turned d f k) S clear rest =
      record {
        refused = ap₂ (λ (x : Bool) (xs : List Bool). x ∷ xs) (f ∙ sym d) R.refused;
        answered = rw (f, d) R.answered;
        stands = rw d R.stands;
        clear = λ e. R.clear (rw f at e);
      }
    where
      R : Went (walk_of (lent s cursor c)).cursor p was cs
      R = rest (walk_of (lent s cursor c)).cursor p was (rw k S) (λ e. rw k (clear e))
  more-went cursor p was c cs (Came.went d f T k w x) S clear rest =
      record {
        refused = ap₂ (λ (x : Bool) (xs : List Bool). x ∷ xs) (f ∙ sym d) R.refused;
        answered = rw (f, d) (ap₂ (λ (x y : List ℕ). x ++ y) w R.answered ∙ sym (map-append answer_word (answers g (letters_of c.letters) p) _));
        stands = rw d R.stands;
        clear = λ e. R.clear refl;
      }
    where
      q : Path
      q = path_after g (letters_of c.letters) p

      R : Went (walk_of (lent s cursor c)).cursor q true cs
      R = rest (walk_of (lent s cursor c)).cursor q true T (λ e. subst (λ (m : ℕ). ClearPast n m (walk_of (lent s cursor c)).cursor) (sym (stands-used W T)) k)

  pub all-went : (calls : List Call) (cursor : List ℕ) (p : Path) (was : Bool) → Stands G first cursor p → (was ≡ true → ClearPast n (used_cells cursor) cursor) → Went cursor p was calls
  all-went [] cursor p was S k = none-went cursor p was S k
  all-went (c ∷ cs) cursor p was S k = more-went cursor p was c cs (one-call s n start first accepted r names C cursor p S c) S k (λ x q b. all-went cs x q b)

  -- the first cursor is above the forest
  pub above-stands : Above (rules_of s) start first → Stands G first first []
  unfolding place_at cells_of label_at cells_in
  above-stands a =
      record {
        named = Named.above;
        same_length = refl;
        head = a.in_order.zeros ∙ ap (λ (k : ℕ). (k, rule_word first, 0, 0)) a.none_used;
        cells = refl;
      }

  pub meets : (calls : List Call) → Above (rules_of s) start first → Meets n g G (turned_down n first) calls (lefts walk_of s first calls) first (cursor_after_calls walk_of s first calls) (finger_path g (turned_down n first) calls [])
  unfolding later_words
  meets calls a =
      record {
        refused = R.refused;
        answered = R.answered;
        used = stands-used W R.stands;
        stored = ap (cells_in (cursor_after_calls walk_of s first calls)) (stands-used W R.stands) ∙ R.stands.cells;
        later = ap (λ (c : Cell). (c.1, c.2, c.3)) R.stands.head ∙ sym (ap (λ (c : Cell). (c.1, c.2, c.3)) a.in_order.zeros);
        clear = R.clear;
        small = λ cs. place_short W (path_after g cs q) (named-after W cs q R.stands.named);
        local = λ cs c e. subst (λ (x : Path). SameButSixteen (place_at G (path_after g cs q)) (place_at G x)) (sym (same_move W c (path_after g cs q))) (W.near (path_after g cs q) c (named-after W cs q R.stands.named) e);
      }
    where
      q : Path
      q = finger_path g (turned_down n first) calls []

      R : Went first [] false calls
      R = all-went calls first [] false (above-stands a) (λ e. absurd (false≢true e))

-- demand 3: the rule that the first cursor names
pub demanded : Demand3 walk_of
unfolding Demand3
demanded s n start cursor calls e a = meets s n start cursor e (walked_rule start cursor) refl a.in_order.names calls a
