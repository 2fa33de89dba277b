-- Bytes pushed one after the other are their text pushed at once, since a text keeps its slice and grows at its end. Assumes nothing.
use Prim.Native.Nat.{ℕ, ◌+◌}
use mathlib.Core.Path.{◌≡◌, refl, sym, ◌∙◌, subst}
use mathlib.Core.List.{List, [], ◌++◌}
use lib.ListN.{length}
use lib.Seq.{sets}
use Rattle.std.specs.Borrow.{MutBor}
use Rattle.decimal.specs.Put.{Put}
use Rattle.decimal.specs.Text.{Room, Begun, Pushed}
use Rattle.decimal.specs.declared.Text.{Text}
use Rattle.decimal.proofs.Puts.{put_both, put_rest, put_as, put-start, put-end}

-- one text and then another
pub pushed_both : {a b : List ℕ} {s t u : Text} → Pushed a s t → Pushed b t u → Pushed (a ++ b) s u
pushed_both P Q =
    record {
      same_reference = Q.same_reference ∙ P.same_reference;
      same_length = Q.same_length ∙ P.same_length;
      put = put_both P.put Q.put;
    }

-- the same text
pub pushed_as : {a b : List ℕ} {s t : Text} → a ≡ b → Pushed a s t → Pushed b s t
pushed_as {s = s} {t} e P = subst (λ (l : List ℕ). Pushed l s t) e P

-- all that is pushed into an empty text stands at the front of the slice, as it is once the text is gone
pub pushed_front : {text last : List ℕ} {end : ℕ} {out : MutBor (List ℕ)} {s t : Text} → Begun out s → Pushed text s t → t.out.now ≡ last
    → end ≡ t.len → Put text 0 out.now last end
pushed_front {text} {last} {end} {out} {s} {t} B P e f =
    rw (sym e, f) (rw (B.as_lent, B.empty) at P.put)

-- ---- a text pushed part by part: what is left of it
pub record Pushing (rest text : List ℕ) (s t : Text) : Type 0 where
  pub same_reference : t.out.ghost_name ≡ s.out.ghost_name
  pub same_length : length t.out.now ≡ length s.out.now
  pub left : Put rest t.len t.out.now (sets s.out.now s.len text) (s.len + length text)

pub pushing-start : {text rest : List ℕ} {s : Text} → text ≡ rest → Room s (length text) → Pushing rest text s s
pushing-start {text} {rest} {s} e h = record { same_reference = refl; same_length = refl; left = put_as e (put-start text s.out.now s.len h) }

pub pushing-more : {a rest more text : List ℕ} {s t u : Text} → rest ≡ a ++ more → Pushed a t u → Pushing rest text s t → Pushing more text s u
pushing-more e P Q =
    record {
      same_reference = P.same_reference ∙ Q.same_reference;
      same_length = P.same_length ∙ Q.same_length;
      left = put_rest P.put (put_as e Q.left);
    }

pub pushing-end : {rest text : List ℕ} {s t : Text} → rest ≡ [] → Pushing rest text s t → Pushed text s t
pushing-end e Q = record { same_reference = Q.same_reference; same_length = Q.same_length; put = put-end e Q.left }
