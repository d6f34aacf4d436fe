-- Bytes in hexadecimal, byte by byte.
use Rattle.std.proofs.Common.{◌≡◌, ◌∙◌, ◌/◌, ◌%◌, ℕ, List, [], ◌∷◌, ◌++◌, Option, take, drop, refl, ap, sym, subst, append_assoc, take-append-drop}
use Rattle.std.specs.Prelude.{slice_index}
use Rattle.std.specs.List.{flat_map}
use Rattle.std.proofs.KnownBytes.{Appends-trans}
use Rattle.hex.specs.Hex.{encode_upper, encode_with, upper_digits}
use Rattle.df1_base.specs.Outside.{Put, Wrote, WroteLess}
use Rattle.df1_base.proofs.Laws.{wrote_all}
use Rattle.replay_report.proofs.Writing.{less_of_more, less_rest}

-- the two digits of a byte
abbrev pub pair_of : ℕ → List ℕ
pair_of byte = encode_upper (byte ∷ [])

pub by_bytes : (bytes : List ℕ) → encode_upper bytes ≡ flat_map pair_of bytes
unfolding encode_with
by_bytes [] = refl
by_bytes (byte ∷ rest) = ap (λ (more : List ℕ). slice_index upper_digits (byte / 16) ∷ slice_index upper_digits (byte % 16) ∷ more) (by_bytes rest)

pub two_bytes : (high low : ℕ) → encode_upper (high ∷ low ∷ []) ≡ encode_upper (high ∷ []) ++ encode_upper (low ∷ [])
unfolding encode_with
two_bytes high low = refl

pub digits-behind : (bytes more : List ℕ) → encode_upper (bytes ++ more) ≡ encode_upper bytes ++ encode_upper more
unfolding encode_with
digits-behind [] more = refl
digits-behind (byte ∷ bytes) more = ap (λ (rest : List ℕ). slice_index upper_digits (byte / 16) ∷ slice_index upper_digits (byte % 16) ∷ rest) (digits-behind bytes more)

-- ---- piece by piece

-- one piece more is written
pub piece_put : (a b c : Option (List ℕ)) (bytes rest : List ℕ) (n : ℕ) → Wrote a b (encode_upper bytes) (encode_upper rest) → Put b c (encode_upper (take n rest)) → Wrote a c (encode_upper bytes) (encode_upper (drop n rest))
piece_put a b c bytes rest n w put =
    let cut : encode_upper rest ≡ encode_upper (take n rest) ++ encode_upper (drop n rest) = ap encode_upper (sym (take-append-drop n rest)) ∙ digits-behind (take n rest) (drop n rest) in
    record {
      part = w.part ++ encode_upper (take n rest);
      text_is = w.text_is ∙ ap (λ t. w.part ++ t) cut ∙ sym (append_assoc w.part (encode_upper (take n rest)) (encode_upper (drop n rest)));
      put = Appends-trans a b c w.part (encode_upper (take n rest)) w.put put;
    }

-- or less than it
pub piece_less : (a b c : Option (List ℕ)) (bytes rest : List ℕ) (n : ℕ) → Wrote a b (encode_upper bytes) (encode_upper rest) → WroteLess b c (encode_upper (take n rest)) → WroteLess a c (encode_upper bytes)
piece_less a b c bytes rest n w less =
    let cut : encode_upper (take n rest) ++ encode_upper (drop n rest) ≡ encode_upper rest = sym (digits-behind (take n rest) (drop n rest)) ∙ ap encode_upper (take-append-drop n rest) in
    less_rest a b c (encode_upper bytes) (encode_upper rest) w (subst (WroteLess b c) cut (less_of_more b c (encode_upper (take n rest)) (encode_upper (drop n rest)) less))

no-digits : encode_upper [] ≡ []
unfolding encode_with
no-digits = refl

-- all of them are
pub pieces_put : (a b : Option (List ℕ)) (bytes rest : List ℕ) → rest ≡ [] → Wrote a b (encode_upper bytes) (encode_upper rest) → Put a b (encode_upper bytes)
pieces_put a b bytes rest none w = wrote_all a b (encode_upper bytes) (rw (none, no-digits) at w)
