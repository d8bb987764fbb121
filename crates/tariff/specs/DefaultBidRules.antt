-- Mitigated hours, bids in force and make-up on plain numbers (docs/RULES.md, D; tariff 23.4.2). Bids and
-- prices are signed words of 32 bits.
use Rattle.std.specs.Prelude.{ℕ, ◌+◌, ◌-◌, ◌*◌, max, Bool, cond, not, ◌&&◌, ◌||◌, leb, eqb}
use Rattle.binary.specs.Bounded.{first_to, last_to, mask_to}
use Rattle.binary.specs.Word.{positive_part, negative_part}
use Rattle.tariff.specs.ConductTests.{bid_test}
use Rattle.tariff.specs.SanctionRules.{cents}

-- the number of hours of a day
abbrev pub day_hours : ℕ
day_hours = 24

-- hour h is from first to end
unfoldable pub between : (first end h : ℕ) → Bool
between first end h = leb first h && leb h end

-- component 1 Day-Ahead: from the first hit to the later of the last and first + R - 1. Where no hour of the n is hit, the
-- first is n, past them all
unfoldable pub spanned : (n : ℕ) (hit : ℕ → Bool) (R : ℕ) → ℕ → Bool
spanned n hit R = between (first_to n hit) (max (last_to n hit) (first_to n hit + R - 1))

-- the mitigated hours as a mask; the day's last hour ends them
unfoldable pub span_mask : (n : ℕ) (hit : ℕ → Bool) (R : ℕ) → ℕ
span_mask n hit R = mask_to n (spanned n hit R)

-- a bid is at most a reference
unfoldable pub at_most : (a r : ℕ) → Bool
at_most a r = leb (positive_part 32 a) r

unfoldable pub lesser : (a r : ℕ) → ℕ
lesser a r = cond (at_most a r) a r

unfoldable pub greater : (a r : ℕ) → ℕ
greater a r = cond (at_most a r) r a

-- the lesser of a and r (8: the greater)
unfoldable pub default_bid : (component a r : ℕ) → ℕ
default_bid component a r = cond (eqb component 8) (greater a r) (lesser a r)

unfoldable pub in_force : (component a r : ℕ) (mitigated : Bool) → ℕ
in_force component a r mitigated = cond mitigated (default_bid component a r) a

-- with c ≠ r, components 1 and 3 restore a bid that passes the conduct test with c
unfoldable pub restores : (component r c : ℕ) → Bool
restores component r c = (eqb component 1 || eqb component 3) && not (eqb c r)

unfoldable pub corrected_bid : (component a r c : ℕ) (fails : Bool) → ℕ
corrected_bid component a r c fails =
    cond (restores component r c) (cond fails (lesser a c) a) (default_bid component a r)

-- the bid in force where the correct reference is c
unfoldable pub corrected_in_force : (component a r c market : ℕ) (tight : Bool) (average_price H : ℕ) (mitigated : Bool) → ℕ
corrected_in_force component a r c market tight average_price H mitigated =
    cond mitigated (corrected_bid component a r c (bid_test component c a market tight average_price H 0)) a

-- x - y of two words, or 0 if negative
unfoldable pub excess : (x y : ℕ) → ℕ
excess x y = positive_part 32 x + negative_part 32 y - (positive_part 32 y + negative_part 32 x)

-- one mitigated hour of component 0: m × (the lesser of a and c, less b, or 0 if negative), in tenths of a cent
unfoldable pub hour_make_up : (a b m c : ℕ) → ℕ
hour_make_up a b m c = m * excess (lesser a c) b

-- the mitigated hours' sum in tenths of a cent, due where c ≠ r
unfoldable pub make_up : (r c tenths : ℕ) → ℕ
make_up r c tenths = cond (eqb c r) 0 (cents 10 tenths)
