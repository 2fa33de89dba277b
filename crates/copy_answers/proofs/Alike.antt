-- Two accepted plans with equal forests answer alike: by demand 3 the answers are those of the finger on the forest, which is fed nothing
-- else but the letters. So two copies whose visible forests agree tell a client the same. Assumes nothing.
use Rattle.std.specs.Prelude.{Result, Ok}
use Rattle.refusal.specs.declared.Refusal.{Refusal}
use Prim.Native.Nat.{ℕ}
use mathlib.Core.Bool.{not}
use mathlib.Core.List.{List, [], ◌∷◌, map}
use mathlib.Core.Path.{◌≡◌, refl, sym, ap, ap₂, ◌∙◌}
use lib.ListN.{length, take}
use Rattle.rule.specs.declared.Rule.{Rule}
use Rattle.plan.specs.Check.{checked, rules_of}
use Rattle.forest.specs.Forest.{Forest, forest}
use Rattle.forest.specs.Reference.{Path, answers, path_after}
use Rattle.forest.specs.Walk.{first_other, letters_of, answer_word}
use Rattle.demand.specs.Calls.{Call, walk_of}
use Rattle.demand.specs.Demand.{is_none, turned_down, finger_answers, Demand3}
use Rattle.demand.proofs.Demand3.{demand3}
use Rattle.demand.proofs.Plans.{start-closed}
use Rattle.demand.proofs.FromAbove.{start-walked, start-above}
use Rattle.demand.proofs.Replies.{reply, replies}
use Rattle.label_rows.specs.declared.LabelRow.{LabelRow}
use Rattle.copy_variants.specs.Visible.{visible, seen_by}
use Rattle.copy_plan.specs.Bytes.{copy_bytes}
use Rattle.copy.specs.Copy.{Copies}
use Rattle.copy.proofs.Bytes.{copy-bytes}
use Rattle.copy_answers.specs.Asked.{Enough, Asked, told, TellAlike}

-- a call that isn't refused for size is turned down by its letters alone
by-letters : (n : ℕ) (cursor : List ℕ) (c : Call) → Enough n cursor c → turned_down n cursor c ≡ not (is_none (first_other c.letters 0))
unfolding turned_down Enough
by-letters n cursor c e = rw e

module _ (n m : ℕ) (cursor other : List ℕ) where
  same-down : (c d : Call) → c.letters ≡ d.letters → Enough n cursor c → Enough m other d → turned_down n cursor c ≡ turned_down m other d
  same-down c d e p q = by-letters n cursor c p ∙ ap (λ (l : List ℕ). not (is_none (first_other l 0))) e ∙ sym (by-letters m other d q)

  -- and so is what it answers
  same-reply : (c d : Call) → c.letters ≡ d.letters → Enough n cursor c → Enough m other d → reply n cursor c ≡ reply m other d
  unfolding reply Enough
  same-reply c d e p q = rw (p, q, e)

  asked-replies : {cs ds : List Call} → Asked n m cursor other cs ds → map (reply n cursor) cs ≡ map (reply m other) ds
  asked-replies Asked.none = refl
  asked-replies (Asked.more {c} {d} e p q r) = ap₂ ◌∷◌ (same-reply c d e p q) (asked-replies r)

  -- the finger's answers to such calls
  asked-finger : (g : Forest ℕ) {cs ds : List Call} → Asked n m cursor other cs ds → (p : Path)
      → finger_answers g (turned_down n cursor) cs p ≡ finger_answers g (turned_down m other) ds p
  unfolding finger_answers
  asked-finger g Asked.none p = refl
  asked-finger g (Asked.more {c} {d} e s q r) p =
      rw (same-down c d e s q, e, asked-finger g r p, asked-finger g r (path_after g (letters_of d.letters) p))

module _ (s t : List ℕ) (n m start top : ℕ) (e : checked s ≡ Ok (record { n = n; start = start })) (f : checked t ≡ Ok (record { n = m; start = top })) where
  pub tell-alike : forest (rules_of s) start ≡ forest (rules_of t) top → TellAlike walk_of s n t m
  unfolding Demand3 told
  tell-alike same cursor other cs ds a b q =
      let a' = start-above (start-closed s n start e) cursor a in
      let b' = start-above (start-closed t m top f) other b in
      let M = demand3 s n start cursor cs e a' in
      let N = demand3 t m top other ds f b' in
      let fingers =
      ap (λ (r : ℕ). finger_answers (forest (rules_of s) r) (turned_down n cursor) cs []) (start-walked start cursor a)
      ∙ ap (λ (g : Forest ℕ). finger_answers g (turned_down n cursor) cs []) same
      ∙ asked-finger n m cursor other (forest (rules_of t) top) q []
      ∙ ap (λ (r : ℕ). finger_answers (forest (rules_of t) r) (turned_down m other) ds []) (sym (start-walked top other b)) in
      λ i. record {
        replies = (replies s n start cursor cs e a' ∙ asked-replies n m cursor other q ∙ sym (replies t m top other ds f b')) i;
        answers = (M.answered ∙ ap (map answer_word) fingers ∙ sym N.answered) i;
      }

-- "Two plans whose visible forests agree must give the client equal answers to every string of letters from above the forest": plans s and
-- t, lists and classes of any kind, and what copy wrote for the one and for the other
module _ {s t : List ℕ} {rows others : List LabelRow} {c d n m a b : ℕ} {work work' out out' lent lent' place place' : List ℕ} {x y : Result ℕ Refusal}
    (X : Copies s rows c n a work work' out out' x) (Y : Copies t others d m b lent lent' place place' y) where
  pub equal-answers : {l k : ℕ} → x ≡ Ok l → y ≡ Ok k
      → visible (seen_by rows c) (forest (rules_of s) a) ≡ visible (seen_by others d) (forest (rules_of t) b)
      → TellAlike walk_of (take l out') (length X.rules) (take k place') (length Y.rules)
  equal-answers e f same =
      rw (copy-bytes X e, copy-bytes Y f)
      (tell-alike (copy_bytes X.rules X.top) (copy_bytes Y.rules Y.top) (length X.rules) (length Y.rules) X.top Y.top X.accepts Y.accepts
      (ap (λ (R : List Rule). forest R X.top) X.reads ∙ X.copied.gives ∙ same ∙ sym (ap (λ (R : List Rule). forest R Y.top) Y.reads ∙ Y.copied.gives)))
