-- Plain lines: words of bytes greater than `#` with one space between them, and a line feed.
use Rattle.std.proofs.Common.{◌≡◌, ℕ, zero, suc, ◌+◌, ◌-◌, ◌<◌, false, eqb, leb, List, [], ◌∷◌, ◌++◌, length, get_or}
use Rattle.std.proofs.Common.{refl, sym, ap, ◌∙◌, arith, append_assoc, append-nil}
use Rattle.std.specs.Str.Lines.{strip_carriage_return}
use Rattle.std.proofs.lemmas.Bool.Decides.{nat_tests}
use Rattle.std.proofs.lemmas.List.{length-append, get_or-append-add}
use Rattle.wq_text.specs.Comments.{before_comment}
use Rattle.wq_text.specs.Lines.{pieces, lines_from}
use Rattle.wq_text.specs.Runs.{AllGreater}
use Rattle.wq_text.specs.Words.{WordView, words_from, AllInWord, BeginsWithWords}
use Rattle.wq_text.proofs.CutLemmas.{words_from-cut, words_from-space}
use Rattle.wq_text.proofs.PieceLemmas.{NoFeed, pieces-feed}
use Rattle.wq_text.proofs.RunLemmas.{in_word-greater}

-- ---- bytes greater than `#`

no_feed : (b : ℕ) → leb b 35 ≡ false → eqb b 10 ≡ false
no_feed b h = grind (arith, nat_tests)

no_return : (b : ℕ) → leb b 35 ≡ false → eqb b 13 ≡ false
no_return b h = grind (arith, nat_tests)

NoFeed-greater : (bs : List ℕ) → AllGreater bs → NoFeed bs
NoFeed-greater [] h = tt
NoFeed-greater (b ∷ bs) h = (no_feed b h.0, NoFeed-greater bs h.1)

NoFeed-append : (xs ys : List ℕ) → NoFeed xs → NoFeed ys → NoFeed (xs ++ ys)
NoFeed-append [] ys h k = k
NoFeed-append (x ∷ xs) ys h k = (h.0, NoFeed-append xs ys h.1 k)

AllInWord-greater : (bs : List ℕ) → AllGreater bs → AllInWord bs
AllInWord-greater [] h = tt
AllInWord-greater (b ∷ bs) h = (in_word-greater b h.0, AllInWord-greater bs h.1)

AllGreater-at : (bs : List ℕ) (k : ℕ) → k < length bs → AllGreater bs → leb (get_or bs k 0) 35 ≡ false
AllGreater-at [] k lt h = absurd (omega arith)
AllGreater-at (b ∷ bs) zero lt h = h.0
AllGreater-at (b ∷ bs) (suc k) lt h = AllGreater-at bs k (omega arith) h.1

-- ---- the line

-- no carriage return ends bytes whose last word is of such bytes
strip_carriage_return-greater : (front word : List ℕ) → AllGreater word → 0 < length word
    → strip_carriage_return (front ++ word) ≡ front ++ word
strip_carriage_return-greater front word h some =
    let whole = front ++ word in
    let place : length whole - 1 ≡ length front + (length word - 1) = omega (arith, length-append front word) in
    let last : get_or whole (length whole - 1) 0 ≡ get_or word (length word - 1) 0 =
    ap (λ (k : ℕ). get_or whole k 0) place ∙ get_or-append-add front word (length word - 1) 0 in
    let greater : leb (get_or whole (length whole - 1) 0) 35 ≡ false =
    ap (λ (b : ℕ). leb b 35) last ∙ AllGreater-at word (length word - 1) (omega arith) h in
    let other : eqb (get_or whole (length whole - 1) 0) 13 ≡ false = no_return _ greater in
    rw other refl

-- a line that ends with a word of such bytes, and the lines after it
lines_from-plain : (n at : ℕ) (front word rest : List ℕ) → NoFeed front → AllGreater word → 0 < length word
    → lines_from n at (pieces ((front ++ word) ++ (10 ∷ rest))) ≡ record {
      no = n;
      start = at;
      bytes = front
          ++ word;
    } ∷ lines_from (n + 1) (at + (length (front ++ word) + 1)) (pieces rest)
lines_from-plain n at front word rest clear h some =
    let whole = front ++ word in
    ap (lines_from n at) (pieces-feed whole rest (NoFeed-append front word clear (NoFeed-greater word h)))
    ∙ ap (λ (bs : List ℕ). record { no = n; start = at; bytes = bs } ∷ lines_from (n + 1) (at + (length whole + 1))
    (pieces rest)) (strip_carriage_return-greater front word h some)

-- ---- its words

-- one word
words_from-one : (at : ℕ) (word : List ℕ) → AllGreater word → 0 < length word
    → words_from at (before_comment word) ≡ record { start = at; bytes = word } ∷ []
words_from-one at word h some =
    words_from-cut at word [] word word [] refl tt (sym (append-nil word)) (AllInWord-greater word h) tt some
    ∙ ap (λ (n : ℕ). record { start = n; bytes = word } ∷ []) {x = at + 0} {y = at} (omega arith)

-- a word, a space, and words after it
words_from-more : (at : ℕ) (word rest : List ℕ) (words : List WordView) → AllGreater word → 0 < length word
    → words_from (at + (length word + 1)) (before_comment rest) ≡ words
    → words_from at (before_comment (word ++ (32 ∷ rest))) ≡ record { start = at; bytes = word } ∷ words
words_from-more at word rest words h some e =
    words_from-space at word rest (AllInWord-greater word h) some
    ∙ ap (λ (ws : List WordView). record { start = at; bytes = word } ∷ ws) e

NoFeed-space : (word rest : List ℕ) → AllGreater word → NoFeed rest → NoFeed (word ++ (32 ∷ rest))
NoFeed-space word rest h k = NoFeed-append word (32 ∷ rest) (NoFeed-greater word h) (refl, k)

module _ (n at first m : ℕ) (text word after name : List ℕ) (cut : text ≡ word ++ (32 ∷ after))
    (plain : AllGreater word) (some : 0 < length word) (plain_name : AllGreater name) (some_name : 0 < length name)
    (at_first : first ≡ at + (length word + 1)) (next : m ≡ n + 1) where
  -- `keyword`, a space, a name and a line feed
  pub BeginsWithWords-single : (rest : List ℕ) (end : ℕ) → after ≡ name ++ (10 ∷ rest) → end ≡ first + (length name + 1)
      → BeginsWithWords word (record { start = first; bytes = name } ∷ []) (lines_from n at (pieces text))
      (lines_from m end (pieces rest))
  BeginsWithWords-single rest end cut_name at_end =
      let front = word ++ (32 ∷ []) in
      let line = front ++ name in
      let same : line ≡ word ++ (32 ∷ name) = append_assoc word (32 ∷ []) name in
      let whole : text ≡ line ++ (10 ∷ rest) =
      cut ∙ ap (λ (l : List ℕ). word ++ (32 ∷ l)) cut_name ∙ sym (append_assoc word (32 ∷ name) (10 ∷ rest))
      ∙ ap (λ (l : List ℕ). l ++ (10 ∷ rest)) (sym same) in
      let size : length line ≡ length word + 1 + length name =
      omega (arith, length-append front name, length-append word (32 ∷ [])) in
      record {
        line = record { no = n; start = at; bytes = line };
        first =
            ap (λ (t : List ℕ). lines_from n at (pieces t)) whole
            ∙ lines_from-plain n at front name rest (NoFeed-space word [] plain tt) plain_name some_name
            ∙ ap (λ (k : ℕ). record { no = n; start = at; bytes = line } ∷ lines_from (n + 1) k (pieces rest))
            {x = at + (length line + 1)} {y = end} (omega arith)
            ∙ ap (λ (k : ℕ). record { no = n; start = at; bytes = line } ∷ lines_from k end (pieces rest)) (sym next);
        holds =
            ap (λ (bs : List ℕ). words_from at (before_comment bs)) same
            ∙ words_from-more at word name (record { start = first; bytes = name } ∷ []) plain some
            (words_from-one (at + (length word + 1)) name plain_name some_name
            ∙ ap (λ (k : ℕ). record { start = k; bytes = name } ∷ []) (sym at_first));
      }

  -- `keyword`, a space, a name, a space, a target and a line feed
  pub BeginsWithWords-pair : (behind target rest : List ℕ) (second end : ℕ) → after ≡ name ++ (32 ∷ behind)
      → behind ≡ target ++ (10 ∷ rest)
      → AllGreater target → 0 < length target → second ≡ first + (length name + 1) → end ≡ second + (length target + 1)
      → BeginsWithWords word (record { start = first; bytes = name } ∷ record { start = second; bytes = target } ∷ [])
      (lines_from n at (pieces text)) (lines_from m end (pieces rest))
  BeginsWithWords-pair behind target rest second end cut_name cut_target plain_target some_target at_second at_end =
      let front = word ++ (32 ∷ (name ++ (32 ∷ []))) in
      let line = front ++ target in
      let same : line ≡ word ++ (32 ∷ (name ++ (32 ∷ target))) =
      append_assoc word (32 ∷ (name ++ (32 ∷ []))) target
      ∙ ap (λ (l : List ℕ). word ++ (32 ∷ l)) (append_assoc name (32 ∷ []) target) in
      let whole : text ≡ line ++ (10 ∷ rest) =
      cut ∙ ap (λ (l : List ℕ). word ++ (32 ∷ l)) (cut_name ∙ ap (λ (l : List ℕ). name ++ (32 ∷ l)) cut_target
      ∙ sym (append_assoc name (32 ∷ target) (10 ∷ rest)))
      ∙ sym (append_assoc word (32 ∷ (name ++ (32 ∷ target))) (10 ∷ rest))
      ∙ ap (λ (l : List ℕ). l ++ (10 ∷ rest)) (sym same) in
      let size : length line ≡ length word + 1 + length name + 1 + length target =
      omega (
        arith,
        length-append front target,
        length-append word (32 ∷ (name ++ (32 ∷ []))),
        length-append name (32 ∷ []),
      ) in
      let words : List WordView = record { start = first; bytes = name } ∷ record {
        start = second;
        bytes = target;
      } ∷ [] in
      record {
        line = record { no = n; start = at; bytes = line };
        first =
            ap (λ (t : List ℕ). lines_from n at (pieces t)) whole
            ∙ lines_from-plain n at front target rest (NoFeed-space word (name ++ (32 ∷ [])) plain
            (NoFeed-space name [] plain_name tt)) plain_target some_target
            ∙ ap (λ (k : ℕ). record { no = n; start = at; bytes = line } ∷ lines_from (n + 1) k (pieces rest))
            {x = at + (length line + 1)} {y = end} (omega arith)
            ∙ ap (λ (k : ℕ). record { no = n; start = at; bytes = line } ∷ lines_from k end (pieces rest)) (sym next);
        holds =
            ap (λ (bs : List ℕ). words_from at (before_comment bs)) same
            ∙ words_from-more at word (name ++ (32 ∷ target)) words plain some
            (
            ap (λ (k : ℕ). words_from k (before_comment (name ++ (32 ∷ target)))) (sym at_first)
            ∙ words_from-more first name target (record { start = second; bytes = target } ∷ []) plain_name some_name
            (ap (λ (k : ℕ). words_from k (before_comment target)) (sym at_second)
            ∙ words_from-one second target plain_target some_target)
            );
      }
