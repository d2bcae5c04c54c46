-- Numbers as they are printed.
use Rattle.std.proofs.Common.{◌≡◌, ◌≢◌, ◌<◌, ◌^◌, ℕ, List, false, decimal, None, Some, Result, arith}
use Rattle.std.proofs.lemmas.Fmt.{parse-decimal}
use Rattle.std.proofs.lemmas.Slice.Eq.{bytes_eq-Decides}
use Rattle.std.specs.Result.{result_ok}
use Rattle.std.specs.Str.{bytes_eq}
use Rattle.std.specs.Str.Parse.{ParsesUnsigned}

larger : (n : ℕ) → n < 2 ^ 32 → n < 2 ^ 64
larger n small = omega arith

-- what isn't read is no number's text
pub unread : {E : Type 0} (digits : List ℕ) (r : Result ℕ E) → ParsesUnsigned 32 10 digits r → result_ok r ≡ None → (n : ℕ) → n < 2 ^ 32 → digits ≢ decimal n
unread digits r parsed none n small e = let k = parse-decimal 32 n digits r small (larger n small) e parsed in let j = rw k at none in cc

-- what is read, and is printed as another text, is no number's text
pub other_text : {E : Type 0} (digits printed : List ℕ) (r : Result ℕ E) (m : ℕ) → ParsesUnsigned 32 10 digits r → Some m ≡ result_ok r → printed ≡ decimal m → bytes_eq printed digits ≡ false → (n : ℕ) → n < 2 ^ 32 → digits ≢ decimal n
other_text digits printed r m parsed some is differs n small e =
    let k = parse-decimal 32 n digits r small (larger n small) e parsed in
    let j = rw k at some in
    let same : printed ≡ digits = cc in
    let yes = (bytes_eq-Decides printed digits).1 same in
    cc
