-- The line that is printed of a reply. Assumes nothing.
--   reply_text   `ok`, `ok N`, `ok N HEX` or `refused NUMBER LAYER PLACE`
--   hex_text     bytes in hexadecimal, two capital digits a byte
use Rattle.std.specs.Prelude.{ℕ, ◌+◌, ◌/◌, ◌%◌, cond, List, [], ◌∷◌, ◌++◌, Some, None, Ok, Err, codes, decimal, Option, Result, nat_lt}
use Rattle.std.specs.List.{flat_map}
use Rattle.refusal.specs.Refusals.{listed}
use Rattle.refusal.specs.declared.Refusal.{Refusal}
use Rattle.model.specs.Requests.{Reply}

-- A hexadecimal digit, in capitals.
abbrev pub hex_digit : ℕ → ℕ
hex_digit n = cond (nat_lt n 10) (48 + n) (55 + n)

abbrev pub hex_pair : ℕ → List ℕ
hex_pair b = hex_digit (b / 16) ∷ hex_digit (b % 16) ∷ []

abbrev pub hex_text : List ℕ → List ℕ
hex_text bytes = flat_map hex_pair bytes

-- The buffer is told behind the number, unless it is empty.
abbrev pub buffer_text : List ℕ → List ℕ
buffer_text [] = []
buffer_text (b ∷ rest) = codes " " ++ hex_text (b ∷ rest)

-- Where no number is replied, nothing else is told.
abbrev pub done_text : Option ℕ → List ℕ → List ℕ
done_text None buffer = codes "ok"
done_text (Some n) buffer = codes "ok " ++ (decimal n ++ buffer_text buffer)

abbrev pub refused_text : Refusal → List ℕ
refused_text x =
    codes "refused " ++ (decimal (listed x).number ++ (codes " " ++ (decimal (listed x).layer ++ (codes " " ++ decimal (listed x).place))))

abbrev pub answer_text : Result (Option ℕ) Refusal → List ℕ → List ℕ
answer_text (Ok number) buffer = done_text number buffer
answer_text (Err refusal) buffer = refused_text refusal

abbrev pub reply_text : Reply → List ℕ
reply_text reply = answer_text reply.answer reply.buffer
