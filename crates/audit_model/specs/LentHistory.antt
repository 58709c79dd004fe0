-- A history lent as words, seven a call; a verdict in numbers. (Document 02, #103.)
use Rattle.std.specs.Prelude.{List, [], ◌∷◌, ℕ, zero, suc, ◌+◌, ◌*◌, ◌/◌, length, get_or}
use Rattle.audit_model.specs.declared.{Finished.Finished, VerdictReply.VerdictReply}
use Rattle.audit_model.specs.declared.Verdict.{Verdict, TheVariants.{Refused, Failed, Passed}}

abbrev pub call_at : List ℕ → ℕ → Finished
call_at ws i = record {
  task = get_or ws (7 * i) 0;
  kind = get_or ws (7 * i + 1) 0;
  side = get_or ws (7 * i + 2) 0;
  label = get_or ws (7 * i + 3) 0;
  answer = get_or ws (7 * i + 4) 0;
  start = get_or ws (7 * i + 5) 0;
  end = get_or ws (7 * i + 6) 0;
}

-- n calls from call i on.
unfoldable pub calls_from : ℕ → ℕ → List ℕ → List Finished
calls_from i zero ws = []
calls_from i (suc n) ws = call_at ws i ∷ calls_from (suc i) n ws

-- As many calls as there are whole ones.
abbrev pub calls_in : List ℕ → List Finished
calls_in ws = calls_from 0 (length ws / 7) ws

-- A history written as words.
abbrev pub words_of : List Finished → List ℕ
words_of [] = []
words_of (c ∷ cs) = c.task ∷ c.kind ∷ c.side ∷ c.label ∷ c.answer ∷ c.start ∷ c.end ∷ words_of cs

abbrev pub verdict_reply : Verdict → VerdictReply
verdict_reply (Refused why) = record { code = why; position = 0 }
verdict_reply (Failed position) = record { code = 1; position = position }
verdict_reply Passed = record { code = 0; position = 0 }
