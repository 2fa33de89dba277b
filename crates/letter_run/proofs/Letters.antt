-- Letters taken one by one: what is answered so far and what the letters still to come will give make up what all of them give.
-- One word more at the front of the answers. Assumes nothing.
use Prim.Native.Nat.{ℕ, ◌+◌, ◌*◌, ◌≤◌, ◌<◌}
use native.Mathlib.Omega.{arith}
use native.Mathlib.Numerals.{add-one}
use mathlib.Core.Path.{◌≡◌, refl, sym, ap, ap₂, ◌∙◌}
use mathlib.Core.List.{List, [], ◌∷◌, ◌++◌, map, append_assoc, append-nil}
use Rattle.std.specs.Prelude.{None, Some}
use lib.ListN.{length, take, drop, get_or, length-append, length-drop, drop_of_length-le}
use lib.Seq.{take_at, drop_at, drop-drop, drop-cons}
use Rattle.words.specs.Number.{bytes}
use Rattle.words.specs.Put.{put}
use Rattle.words.proofs.Laws.{put-split, length-put, length-bytes}
use Rattle.words.specs.Front.{in_front}
use Rattle.forest.specs.Letter.{Letter, letter_of}
use Rattle.forest.specs.Walk.{answer_length, cell_length, cells_in, and_letters, letters_of, answers_bytes, answer_word}
use Rattle.model.specs.Model.{Node}
use Rattle.model.specs.Walk.{answers, after}
use Rattle.work_rows.specs.Rows.{Within, row_length}
use Rattle.facts.specs.Facts.{facts_in}
use Rattle.work_rows.proofs.Rows.{within_none, within_both}
use Rattle.letter_arrival.specs.declared.Landing.{Landing}
use Rattle.letter_arrival.specs.declared.Standing.{Standing}
use Rattle.letter_moves.specs.Standing.{Stands, Stepped}
use Rattle.letter_run.specs.Ran.{Ran, Answerable}
use Rattle.letter_moves.proofs.Stands.{stands-few, stands_after}

pub length-answers_bytes : (vs : List ℕ) → length (answers_bytes vs) ≡ answer_length * length vs
unfolding answers_bytes
length-answers_bytes [] = refl
length-answers_bytes (v ∷ vs) = length-append (bytes answer_length v) (answers_bytes vs) ∙ omega (arith, length-bytes answer_length v, length-answers_bytes vs)

answers_bytes-more : (vs : List ℕ) (v : ℕ) → answers_bytes (vs ++ (v ∷ [])) ≡ answers_bytes vs ++ bytes answer_length v
unfolding answers_bytes bytes
answers_bytes-more [] v = refl
answers_bytes-more (x ∷ vs) v = ap (λ (l : List ℕ). bytes answer_length x ++ l) (answers_bytes-more vs v)

-- no word at the front, and one word more
in-front-none : (given : List ℕ) → in_front (answers_bytes []) given ≡ given
unfolding in_front answers_bytes
in-front-none given = refl

in-front-more : (vs : List ℕ) (v : ℕ) (given : List ℕ) (at : ℕ) → answer_length * length vs ≡ at → at + answer_length ≤ length given
    → put answer_length (in_front (answers_bytes vs) given) at v ≡ in_front (answers_bytes (vs ++ (v ∷ []))) given
unfolding in_front
in-front-more vs v given at e room =
    put-split answer_length (answers_bytes vs ++ drop (length (answers_bytes vs)) given) at v enough
    ∙ ap₂ (λ (x y : List ℕ). x ++ (bytes answer_length v ++ y)) front back
    ∙ sym (append_assoc (answers_bytes vs) (bytes answer_length v) (drop (at + answer_length) given))
    ∙ sym (ap₂ (λ (x : List ℕ) (k : ℕ). x ++ drop k given) (answers_bytes-more vs v) longer)
  where
    whole : length (answers_bytes vs) ≡ at
    whole = length-answers_bytes vs ∙ e

    enough : at + answer_length ≤ length (answers_bytes vs ++ drop (length (answers_bytes vs)) given)
    enough = simp (length-append, length-drop) (omega (arith, whole))

    front : take at (answers_bytes vs ++ drop (length (answers_bytes vs)) given) ≡ answers_bytes vs
    front = take_at (answers_bytes vs) (drop (length (answers_bytes vs)) given) at whole

    back : drop (at + answer_length) (answers_bytes vs ++ drop (length (answers_bytes vs)) given) ≡ drop (at + answer_length) given
    back =
        sym (drop-drop answer_length at (answers_bytes vs ++ drop (length (answers_bytes vs)) given))
        ∙ ap (drop answer_length) (drop_at (answers_bytes vs) (drop (length (answers_bytes vs)) given) at whole ∙ ap (λ (k : ℕ). drop k given) whole)
        ∙ drop-drop answer_length at given

    longer : length (answers_bytes (vs ++ (v ∷ []))) ≡ at + answer_length
    longer = length-answers_bytes (vs ++ (v ∷ [])) ∙ omega (arith, length-append vs (v ∷ []))

-- the letters from an offset on
letters-none : (letters : List ℕ) (i : ℕ) → length letters ≤ i → letters_of (drop i letters) ≡ []
unfolding letters_of
letters-none letters i h = rw (drop_of_length-le letters h)

letters-other : (letters : List ℕ) (i : ℕ) → i < length letters → letter_of (get_or letters i 0) ≡ None → letters_of (drop i letters) ≡ []
unfolding letters_of and_letters
letters-other letters i h e = rw (drop-cons letters i 0 h) (rw e)

letters-more : (letters : List ℕ) (i : ℕ) (l : Letter) → i < length letters → letter_of (get_or letters i 0) ≡ Some l → letters_of (drop i letters) ≡ l ∷ letters_of (drop (i + 1) letters)
unfolding letters_of and_letters
letters-more letters i l h e = rw (drop-cons letters i 0 h, add-one i) (rw e)

-- letters up to offset i from the place h₀, at the place h: done is the words written so far
pub record Partway (r : ℕ) (t letters : List ℕ) (h₀ : Standing) (s₀ given₀ : List ℕ) (i : ℕ) (h : Standing) (s given : List ℕ) : Type 0 where
  pub stands : Stands r t s h.used h.rule
  pub done : List ℕ
  pub count : length done ≡ i
  pub room : length given ≡ length given₀
  pub written : given ≡ in_front (answers_bytes done) given₀
  pub left : done ++ map answer_word (answers (facts_in t) r (letters_of (drop i letters)) (h.rule, cells_in s h.used)) ≡ map answer_word (answers (facts_in t) r (letters_of letters) (h₀.rule, cells_in s₀ h₀.used))
  pub leads : after (facts_in t) r (letters_of (drop i letters)) (h.rule, cells_in s h.used) ≡ after (facts_in t) r (letters_of letters) (h₀.rule, cells_in s₀ h₀.used)
  pub within : Within cell_length (length t + row_length) s₀ s

module _ {r : ℕ} {t letters s₀ given₀ : List ℕ} {h₀ : Standing} where
  pub partway-none : Stands r t s₀ h₀.used h₀.rule → Partway r t letters h₀ s₀ given₀ 0 h₀ s₀ given₀
  partway-none S =
      record {
        stands = S;
        done = [];
        count = refl;
        room = refl;
        written = sym (in-front-none given₀);
        left = refl;
        leads = refl;
        within = within_none cell_length (length t + row_length) s₀;
      }

  module _ {i : ℕ} {h : Standing} {s given : List ℕ} (P : Partway r t letters h₀ s₀ given₀ i h s given) where
    -- no letters left
    ran-end : letters_of (drop i letters) ≡ [] → Ran r t letters h₀ s₀ s given₀ given h.used
    unfolding after answers
    ran-end e =
        let words : P.done ≡ map answer_word (answers (facts_in t) r (letters_of letters) (h₀.rule, cells_in s₀ h₀.used)) = sym (append-nil P.done) ∙ (rw e at P.left) in
        record {
          cells = ap (λ (n : Node). n.1) (rw e at P.leads);
          answered = P.written ∙ ap (λ (ws : List ℕ). in_front (answers_bytes ws) given₀) words;
          within = P.within;
          few = stands-few P.stands.placed;
        }

    pub ran-all : length letters ≤ i → Ran r t letters h₀ s₀ s given₀ given h.used
    ran-all d = ran-end (letters-none letters i d)

    pub ran-other : i < length letters → letter_of (get_or letters i 0) ≡ None → Ran r t letters h₀ s₀ s given₀ given h.used
    ran-other d e = ran-end (letters-other letters i d e)

    -- one letter more
    pub partway-more : (l : Letter) → i < length letters → letter_of (get_or letters i 0) ≡ Some l → Answerable letters given₀ → {s' given' : List ℕ} {x : Landing}
        → Stepped r t l h.used h.rule s s' x → given' ≡ put answer_length given (answer_length * i) x.answer → Partway r t letters h₀ s₀ given₀ (i + 1) x.at s' given'
    unfolding after answers
    partway-more l d e room {s'} {given'} {x} z w =
        let more = letters-more letters i l d e in
        let many = P.count in
        record {
          stands = stands_after P.stands l z;
          done = P.done ++ (x.answer ∷ []);
          count = length-append P.done (x.answer ∷ []) ∙ omega arith;
          room = ap length w ∙ length-put answer_length given (answer_length * i) x.answer ∙ P.room;
          written = w ∙ ap (λ (g : List ℕ). put answer_length g (answer_length * i) x.answer) P.written ∙ in-front-more P.done x.answer given₀ (answer_length * i) (omega arith) (omega arith);
          left = append_assoc P.done (x.answer ∷ []) _ ∙ rw (z.node, z.answered) (rw more at P.left);
          leads = rw z.node (rw more at P.leads);
          within = within_both P.within z.within;
        }
