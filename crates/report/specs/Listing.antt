-- The listing of a case (docs/RULES.md, R), as bytes: a line for each event and the totals, or the refusal.
use Rattle.std.specs.Prelude.{ℕ, cond, List, [], ◌∷◌, ◌++◌, ltb, eqb, length}
use Rattle.std.proofs.lemmas.List.Edits.{sets}
use Rattle.casefile.specs.declared.layout.Format.{Format}
use Rattle.casefile.specs.Case.{Events}
use Rattle.casefile.specs.Decode.{format_in, decode}
use Rattle.settlement.specs.Settled.{SettlementAnswer, answer_of, rows_after}
use Rattle.report.specs.Decimal.{field}
use Rattle.report.specs.Line.{space, line_feed, lines_to}

-- "refused " and "total "
abbrev pub refused_word : List ℕ
refused_word = 114 ∷ 101 ∷ 102 ∷ 117 ∷ 115 ∷ 101 ∷ 100 ∷ 32 ∷ []

abbrev pub total_word : List ℕ
total_word = 116 ∷ 111 ∷ 116 ∷ 97 ∷ 108 ∷ 32 ∷ []

unfoldable pub refusal_text : (number : ℕ) → List ℕ
refusal_text n = refused_word ++ field n line_feed

unfoldable pub total_text : (penalties make_ups : ℕ) → List ℕ
total_text p m = total_word ++ field p space ++ field m line_feed

-- the text of an answer, with the events and the rows as they then stand
unfoldable pub text_of : SettlementAnswer → Format → Events → (rows : List ℕ) → List ℕ
text_of a format e rows =
    cond (eqb a.number 0) (lines_to format a.row_count e rows ++ total_text a.penalties a.make_ups) (refusal_text a.number)

-- the listing of a file, correction empty, settled into this rows buffer
unfoldable pub listing_of : (file rows : List ℕ) → List ℕ
listing_of f rows = text_of (answer_of f [] (length rows)) (format_in f) (decode f).events (rows_after f [] rows)

-- the bytes that every listing has room in
abbrev pub longest_listing : ℕ
longest_listing = 42048

-- what the call answers and leaves in its two buffers: nothing where out is too short for the longest listing
unfoldable pub listed_length : (file rows out : List ℕ) → ℕ
listed_length f rows out = cond (ltb (length out) longest_listing) 0 (length (listing_of f rows))

unfoldable pub listed_out : (file rows out : List ℕ) → List ℕ
listed_out f rows out = cond (ltb (length out) longest_listing) out (sets out 0 (listing_of f rows))

unfoldable pub listed_rows : (file rows out : List ℕ) → List ℕ
listed_rows f rows out = cond (ltb (length out) longest_listing) rows (rows_after f [] rows)
