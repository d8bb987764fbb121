-- The sections of a version 2 file that is put together from four.
use Prim.Native.Nat.{ℕ, ◌+◌, ◌≤◌}
use mathlib.Core.List.{List, [], ◌++◌, append_assoc, append-nil}
use mathlib.Core.Path.{◌≡◌, refl, ap, ◌∙◌}
use native.Mathlib.Omega.{arith}
use lib.ListN.{length, take, drop, length-append}
use lib.Seq.{take_at, drop_at}
use Rattle.binary.specs.Bytes.{value_at, bytes_of}
use Rattle.binary.proofs.ByteLaws.{bytes_read}
use Rattle.casefile.specs.Layout.{longest_file, section_count, header_width, second_version}
use Rattle.casefile.specs.Decode.{format_in, offset_of, length_of, section_of}
use Rattle.casefile.specs.File.{headed, file_in}
use Rattle.second_version.proofs.RecordCopies.{second}

-- a part of a list
part : (xs ys zs : List ℕ) (o n : ℕ) → length xs ≡ o → length ys ≡ n → take n (drop o (xs ++ ys ++ zs)) ≡ ys
part xs ys zs o n a b = rw (append_assoc xs ys zs, drop_at xs (ys ++ zs) o a, take_at ys zs n b)

-- a number of the header
number_read : (n : ℕ) → n ≤ longest_file → value_at 4 (bytes_of 4 n ++ []) 0 ≡ n
number_read n l = bytes_read 4 n [] (omega arith)

pub file_length : (u r p e : List ℕ) → length (file_in second_version u r p e) ≡ header_width + length u + length r + length p + length e
unfolding file_in headed bytes_of
file_length u r p e = simp length-append (omega arith)

pub file_format : (u r p e : List ℕ) → format_in (file_in second_version u r p e) ≡ second
unfolding format_in file_in headed value_at bytes_of
file_format u r p e = refl

module _ (u r p e : List ℕ) (short : header_width + length u + length r + length p + length e ≤ longest_file) where
  abbrev file : List ℕ
  file = file_in second_version u r p e

  abbrev header : List ℕ
  header = headed second_version section_count header_width (length u) (length r) (length p) (length e) []

  header_length : length header ≡ header_width
  unfolding headed bytes_of
  header_length = refl

  file_is : file ≡ header ++ (u ++ r ++ p ++ e)
  unfolding file_in headed bytes_of
  file_is = refl

  units_place : (offset_of file 0 ≡ header_width) × (length_of file 0 ≡ length u)
  unfolding file_in headed value_at bytes_of offset_of length_of
  units_place = (number_read header_width (omega arith), number_read (length u) (omega arith))

  references_place : (offset_of file 1 ≡ header_width + length u) × (length_of file 1 ≡ length r)
  unfolding file_in headed value_at bytes_of offset_of length_of
  references_place = (number_read (header_width + length u) (omega arith), number_read (length r) (omega arith))

  past_place : (offset_of file 2 ≡ header_width + length u + length r) × (length_of file 2 ≡ length p)
  unfolding file_in headed value_at bytes_of offset_of length_of
  past_place = (number_read (header_width + length u + length r) (omega arith), number_read (length p) (omega arith))

  events_place : (offset_of file 3 ≡ header_width + length u + length r + length p) × (length_of file 3 ≡ length e)
  unfolding file_in headed value_at bytes_of offset_of length_of
  events_place = (number_read (header_width + length u + length r + length p) (omega arith), number_read (length e) (omega arith))

  -- the section of a pair, where the file is what stands before it, the section, and what stands after
  section_is : (k o : ℕ) (before s after : List ℕ) → (offset_of file k ≡ o) × (length_of file k ≡ length s) → length before ≡ o
      → header ++ (u ++ r ++ p ++ e) ≡ before ++ s ++ after → section_of file k ≡ s
  unfolding section_of
  section_is k o before s after place l parts =
      rw (place.0, place.1) (ap (λ (x : List ℕ). take (length s) (drop o x)) (file_is ∙ parts) ∙ part before s after o (length s) l refl)

  pub units_are : section_of file 0 ≡ u
  units_are = section_is 0 _ header u (r ++ (p ++ e)) units_place header_length (simp append_assoc)

  pub references_are : section_of file 1 ≡ r
  references_are =
      section_is 1 _ (header ++ u) r (p ++ e) references_place (simp length-append (let l = header_length in omega arith)) (simp append_assoc)

  pub past_are : section_of file 2 ≡ p
  past_are =
      section_is 2 _ (header ++ u ++ r) p e past_place (simp length-append (let l = header_length in omega arith)) (simp append_assoc)

  pub events_are : section_of file 3 ≡ e
  events_are =
      section_is 3 _ (header ++ u ++ r ++ p) e [] events_place (simp length-append (let l = header_length in omega arith))
      (simp (append_assoc, append-nil))
