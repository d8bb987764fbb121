use mathlib.Core.Bool.{true}
use mathlib.Core.List.{List}
use mathlib.Core.Path.{◌≡◌}
use Prim.Native.Nat.{ℕ, ◌≤◌}
use borrow.Author.Tests.{le-leb, lt-leb, eq-eqb, ne_eqb}
use lib.ListN.{length}
use Rattle.casefile.specs.Layout.{header_width, longest_file}
use Rattle.limits.specs.Refusal.{length_fine, version_fine, sections_fine}
use Rattle.limits.specs.StageRefusal.{header_refusal}
use Rattle.limits.proofs.header_limits.header_refusal.Goals as goal

-- a length in its limits
fits : (f : List ℕ) → header_width ≤ length f → length f ≤ longest_file → length_fine f ≡ true
unfolding length_fine
fits f a b = rw (le-leb _ _ a, le-leb _ _ b)

pub returns-then-file-lt-HEADER_WIDTH : goal.returns-then-file-lt-HEADER_WIDTH
unfolding header_refusal length_fine
returns-then-file-lt-HEADER_WIDTH c = simp (lt-leb _ _ c.if-file-lt-HEADER_WIDTH.true)

pub returns-then-file-gt-LONGEST_FILE : goal.returns-then-file-gt-LONGEST_FILE
unfolding header_refusal length_fine
returns-then-file-gt-LONGEST_FILE c = simp (le-leb _ _ c.if-file-lt-HEADER_WIDTH.false, lt-leb _ _ c.if-file-gt-LONGEST_FILE.true)

pub returns-then-not-known : goal.returns-then-not-known
unfolding header_refusal version_fine
returns-then-not-known c =
    let long = fits _ c.if-file-lt-HEADER_WIDTH.false c.if-file-gt-LONGEST_FILE.false in
    let known = rw c.format_of-version.ensures at c.if-not-known.true in
    rw (long, known)

pub returns-then-sections-ne-SECTION_COUNT : goal.returns-then-sections-ne-SECTION_COUNT
unfolding header_refusal version_fine sections_fine
returns-then-sections-ne-SECTION_COUNT c =
    let long = fits _ c.if-file-lt-HEADER_WIDTH.false c.if-file-gt-LONGEST_FILE.false in
    let known = rw c.format_of-version.ensures at c.if-not-known.false in
    let four = rw c.sections_of-sections.ensures at (ne_eqb _ _ c.if-sections-ne-SECTION_COUNT.true) in
    rw (long, known, four)

pub returns-then-not-pairs_fine : goal.returns-then-not-pairs_fine
unfolding header_refusal version_fine sections_fine
returns-then-not-pairs_fine c =
    let long = fits _ c.if-file-lt-HEADER_WIDTH.false c.if-file-gt-LONGEST_FILE.false in
    let known = rw c.format_of-version.ensures at c.if-not-known.false in
    let four = rw c.sections_of-sections.ensures at (eq-eqb _ _ c.if-sections-ne-SECTION_COUNT.false) in
    rw (long, known, four, ← c.pairs_fine.ensures, c.if-not-pairs_fine.true)

pub returns-then-not-sizes_fine : goal.returns-then-not-sizes_fine
unfolding header_refusal version_fine sections_fine
returns-then-not-sizes_fine c =
    let long = fits _ c.if-file-lt-HEADER_WIDTH.false c.if-file-gt-LONGEST_FILE.false in
    let known = rw c.format_of-version.ensures at c.if-not-known.false in
    let four = rw c.sections_of-sections.ensures at (eq-eqb _ _ c.if-sections-ne-SECTION_COUNT.false) in
    rw (long, known, four, ← c.pairs_fine.ensures, c.if-not-pairs_fine.false, ← c.sizes_fine.ensures, c.if-not-sizes_fine.true)

pub returns : goal.returns
unfolding header_refusal version_fine sections_fine
returns c =
    let long = fits _ c.if-file-lt-HEADER_WIDTH.false c.if-file-gt-LONGEST_FILE.false in
    let known = rw c.format_of-version.ensures at c.if-not-known.false in
    let four = rw c.sections_of-sections.ensures at (eq-eqb _ _ c.if-sections-ne-SECTION_COUNT.false) in
    rw (long, known, four, ← c.pairs_fine.ensures, c.if-not-pairs_fine.false, ← c.sizes_fine.ensures, c.if-not-sizes_fine.false)
