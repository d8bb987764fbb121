-- What an accepted case is known to keep: its pairs follow on, it is short, and its amounts are in their ranges.
use Prim.Native.Nat.{ℕ, ◌≤◌}
use mathlib.Core.List.{List}
use mathlib.Core.Path.{◌≡◌}
use lib.ListN.{length}
use Rattle.casefile.specs.Layout.{longest_file}
use Rattle.casefile.specs.Decode.{format_in, section_of, FollowOn, decode}
use Rattle.limits.specs.Refusal.{refusal}
use Rattle.limits.proofs.AcceptedLaws as case
use Rattle.sanctions.proofs.AcceptedFigures as sanctions
use Rattle.sanctions.proofs.PenaltyBounds.{Ranges}

pub record AcceptedCase (f : List ℕ) : Type 0 where
  pub follow : FollowOn f
  pub short : length f ≤ longest_file
  pub ranges : Ranges (decode f)

pub accepted_case : (f k : List ℕ) (n : ℕ) → refusal f k n ≡ 0 → AcceptedCase f
unfolding decode
accepted_case f k n h =
    record {
      follow = case.follows f k n h;
      short = case.file_short f k n h;
      ranges = sanctions.ranges (format_in f) (section_of f 0) (section_of f 2) (section_of f 3) (sanctions.accepted f k n h) (section_of f 1);
    }
