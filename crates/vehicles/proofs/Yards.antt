-- A yard's bytes as vehicle files: one more of them is cut off what is left, what is cut off and what is left make up the bytes, and
-- allowed files that are joined are cut as they were.
-- Assumes nothing.
use Prim.Native.Nat.{ℕ, zero, suc, ◌<◌, min}
use mathlib.Core.Path.{◌≡◌, refl, sym, ap, ◌∙◌}
use mathlib.Core.List.{List, [], ◌∷◌, ◌++◌, append_assoc}
use native.Mathlib.Decide.{dec_le}
use native.Mathlib.Omega.{arith}
use lib.ListN.{length, get_or, take, drop, take-append-drop, drop_of_length-le, get_or-append}
use lib.Seq.{take_all, take_at, drop_at}
use Rattle.files.specs.Words.{byte_at}
use Rattle.vehicles.specs.VehicleFile.{VEHICLE_HEADER}
use Rattle.vehicles.specs.Allowed.{AllowedVehicleFile}
use Rattle.vehicles.specs.YardFile.{own_length, files_in, left_after, joined}

-- as many as there are
module _ {A : Type 0} (k : ℕ) (l : List A) where
  pub take_most : take (min k (length l)) l ≡ take k l
  take_most =
      elim (dec_le k (length l)) [
        | yes h ↦ let e : min k (length l) ≡ k = omega arith in ap (λ (n : ℕ). take n l) e
        | no h ↦ take_all (min k (length l)) l (omega arith) ∙ sym (take_all k l (omega arith))
      ]

  pub drop_most : drop (min k (length l)) l ≡ drop k l
  drop_most =
      elim (dec_le k (length l)) [
        | yes h ↦ let e : min k (length l) ≡ k = omega arith in ap (λ (n : ℕ). drop n l) e
        | no h ↦ drop_of_length-le l {i = min k (length l)} (omega arith) ∙ sym (drop_of_length-le l {i = k} (omega arith))
      ]

pub length_files : (n : ℕ) (bytes : List ℕ) → length (files_in n bytes) ≡ n
length_files zero bytes = refl
length_files (suc n) bytes = ap suc (length_files n (drop (own_length bytes) bytes))

-- one file more is cut off what is left
pub one_more_file : (n : ℕ) (bytes : List ℕ) →
    files_in (suc n) bytes ≡ files_in n bytes ++ take (own_length (left_after n bytes)) (left_after n bytes) ∷ []
one_more_file zero bytes = refl
one_more_file (suc n) bytes = ap (λ (files : List (List ℕ)). take (own_length bytes) bytes ∷ files) (one_more_file n (drop (own_length bytes) bytes))

pub left_after_one : (n : ℕ) (bytes : List ℕ) → left_after (suc n) bytes ≡ drop (own_length (left_after n bytes)) (left_after n bytes)
left_after_one zero bytes = refl
left_after_one (suc n) bytes = left_after_one n (drop (own_length bytes) bytes)

-- the files and what is left are all the bytes
pub files_joined : (n : ℕ) (bytes : List ℕ) → joined (files_in n bytes) ++ left_after n bytes ≡ bytes
files_joined zero bytes = refl
files_joined (suc n) bytes =
    let rest = drop (own_length bytes) bytes in
    append_assoc (take (own_length bytes) bytes) (joined (files_in n rest)) (left_after n rest) ∙ ap (λ (l : List ℕ). take (own_length bytes) bytes ++ l) (files_joined n rest) ∙ take-append-drop (own_length bytes) bytes

-- an allowed file is as long as its own counts say, whatever follows it
own_length_lem : (file rest : List ℕ) → AllowedVehicleFile file → length file ≡ own_length (file ++ rest)
own_length_lem file rest a =
    let same : (i : ℕ) → i < VEHICLE_HEADER → byte_at (file ++ rest) i ≡ byte_at file i = λ i l. get_or-append file rest 0 i (omega (arith, a.size)) in
    rw (same 3 (omega arith), same 4 (omega arith), same 8 (omega arith)) a.size

-- the first n files are allowed
abbrev pub AllowedTo : List (List ℕ) → (n : ℕ) → Type 0
AllowedTo files n = (i : ℕ) → i < n → AllowedVehicleFile (get_or files i [])

later : (file : List ℕ) (files : List (List ℕ)) → AllowedTo (file ∷ files) (length (file ∷ files)) → AllowedTo files (length files)
later file files a i h = a (suc i) (omega arith)

-- so joined files are cut as they were, and nothing is left
pub joined_files : (files : List (List ℕ)) → AllowedTo files (length files) → files_in (length files) (joined files) ≡ files
joined_files [] a = refl
joined_files (file ∷ files) a =
    let own = own_length_lem file (joined files) (a 0 (omega arith)) in
    rw (take_at file (joined files) (own_length (file ++ joined files)) own, drop_at file (joined files) (own_length (file ++ joined files)) own, joined_files files (later file files a))

pub joined_left : (files : List (List ℕ)) → AllowedTo files (length files) → left_after (length files) (joined files) ≡ []
joined_left [] a = refl
joined_left (file ∷ files) a =
    let own = own_length_lem file (joined files) (a 0 (omega arith)) in
    ap (left_after (length files)) (drop_at file (joined files) (own_length (file ++ joined files)) own) ∙ joined_left files (later file files a)
