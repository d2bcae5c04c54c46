-- What a hasher of words computes.
use Rattle.std.specs.Prelude.{ℕ, ◌*◌, ◌%◌, ◌^◌, List, [], ◌∷◌, bit_xor, if◌then◌else◌, length, nat_le, slice_index}
use Rattle.std.specs.Int.{from_le_bytes, w32, w64}

-- the first eight of the bytes as a number, the lowest first; the first four where there are fewer, or the first
abbrev pub word_in : List ℕ → ℕ
word_in bs =
    if nat_le 8 (length bs) then from_le_bytes w64 (slice_index bs 0 ∷ slice_index bs 1 ∷ slice_index bs 2 ∷ slice_index bs 3 ∷ slice_index bs 4 ∷ slice_index bs 5 ∷ slice_index bs 6 ∷ slice_index bs 7 ∷ [])
    else (if nat_le 4 (length bs) then from_le_bytes w32 (slice_index bs 0 ∷ slice_index bs 1 ∷ slice_index bs 2 ∷ slice_index bs 3 ∷ [])
    else (if nat_le 1 (length bs) then slice_index bs 0 else 0))

-- a state with one more word
abbrev pub hashed : ℕ → ℕ → ℕ
hashed state word = (bit_xor state word * 11400714819323198485) % 2 ^ 64
