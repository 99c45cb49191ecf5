-- Lines, and the one way in which bytes are cut into them.
use Rattle.std.proofs.Common.{append_assoc, ◌≡◌, ◌≢◌, ℕ, zero, suc, ◌<◌, ◌^◌, ◌/◌, ◌%◌, ◌==◌, true, false, List, [], ◌∷◌, ◌++◌, Option, Some, None, MatchOption, IfSome, IfNone, Result, Ok, Err, inl, inr, length, take, drop, codes, slice_index, bytes_eq, refl, sym, ap, subst, ◌∙◌, arith}
use Rattle.std.specs.Prelude.{IfOk, IfErr}
use Rattle.std.specs.List.{list_any, AllPass}
use Rattle.std.specs.Fmt.{decimal}
use Rattle.std.proofs.lemmas.Bool.{or_parts, eq-eqb}
use Rattle.std.proofs.lemmas.List.{take-append-drop, take_at, append_cancel_left}
use Rattle.std.proofs.lemmas.Fmt.{decimal_injective}
use Rattle.std.proofs.lemmas.List.Elements.{All-nil, All-cons, All-head, All-tail, All-same, All-append}
use Rattle.std.proofs.lemmas.Slice.Eq.{bytes_eq-Decides}
use Rattle.hex.specs.Hex.{encode_with, lower_digits}
use Rattle.sha2.specs.Sha256.{sha256}
use Rattle.line_words.proofs.WordLemmas.{IsWord, decimal_word}
use Rattle.site_folder.specs.Identity.{IsOneLine, IsNamed, is_name_byte, line_then, name_then, last_text, version_line, world_text, world_digest}
use Rattle.site_folder.specs.Reading.{AreLast, Tells, TellsLines, HasOtherVersion, HasOtherLines}
use Rattle.site_folder.specs.declared.fault.IdentityFault.{IdentityFault}
use Rattle.site_folder.specs.declared.fault.IdentityFault.TheVariants.{NoIdentity}

-- ---- words at the front

pub begins_with : (bytes rest word : List ℕ) → bytes_eq (take (length word) bytes) word ≡ true → rest ≡ drop (length word) bytes
    → bytes ≡ word ++ rest
begins_with bytes rest word same is =
    let front : take (length word) bytes ≡ word = (bytes_eq-Decides (take (length word) bytes) word).0 same in
    sym (take-append-drop (length word) bytes) ∙ ap (λ (l : List ℕ). l ++ drop (length word) bytes) front
    ∙ ap (λ (l : List ℕ). word ++ l) (sym is)

pub begins_not : (bytes word : List ℕ) → bytes_eq (take (length word) bytes) word ≡ false → (rest : List ℕ) → bytes ≢ word ++ rest
begins_not bytes word other rest is =
    let front : take (length word) bytes ≡ word = ap (take (length word)) is ∙ take_at word rest (length word) refl in
    let same : bytes_eq (take (length word) bytes) word ≡ true = (bytes_eq-Decides (take (length word) bytes) word).1 front in
    cc

-- ---- no line feed

by_test : (w : List ℕ) → list_any (λ b. b == 10) w ≡ false → IsOneLine w
by_test [] e = All-nil (λ b. b ≢ 10)
by_test (b ∷ w) e =
    let h = or_parts (b == 10) (list_any (λ b. b == 10) w) e in
    All-cons (λ b. b ≢ 10) b w (λ is. let same : (b == 10) ≡ true = eq-eqb b 10 is in let not : (b == 10) ≡ false = h.0 in cc) (by_test w h.1)

word_line : (w : List ℕ) → IsWord w → IsOneLine w
word_line [] h = All-nil (λ b. b ≢ 10)
word_line (b ∷ w) h = All-cons (λ b. b ≢ 10) b w (λ e. omega (arith, h.0)) (word_line w h.1)

pub number_line : (n : ℕ) → n < 2 ^ 64 → IsOneLine (codes "number " ++ decimal n)
number_line n lt = All-append (λ b. b ≢ 10) (codes "number ") (decimal n) (by_test (codes "number ") refl) (word_line (decimal n) (decimal_word n lt))

pub world_line : (world : List ℕ) → IsOneLine world → IsOneLine (codes "world " ++ world)
world_line world one = All-append (λ b. b ≢ 10) (codes "world ") world (by_test (codes "world ") refl) one

no_lf_at : (t : List ℕ) → IsOneLine t → (k : ℕ) → slice_index t k ≢ 10
no_lf_at [] one k = λ e. cc
no_lf_at (b ∷ t) one zero = All-head (λ b. b ≢ 10) b t one
no_lf_at (b ∷ t) one (suc k) = no_lf_at t (All-tail (λ b. b ≢ 10) b t one) k

hex_line : (xs : List ℕ) → IsOneLine (encode_with lower_digits xs)
unfolding encode_with
hex_line [] = All-nil (λ b. b ≢ 10)
hex_line (b ∷ rest) =
    let digits = no_lf_at lower_digits (by_test lower_digits refl) in
    All-cons (λ b. b ≢ 10) (slice_index lower_digits (b / 16)) (slice_index lower_digits (b % 16) ∷ encode_with lower_digits rest) (digits (b / 16))
    (All-cons (λ b. b ≢ 10) (slice_index lower_digits (b % 16)) (encode_with lower_digits rest) (digits (b % 16)) (hex_line rest))

-- the name of a world is one line
pub world_name_line : (name : Option (List ℕ)) (header : List ℕ) → IsOneLine (world_digest name header)
world_name_line name header = hex_line (sha256 (world_text name header))

-- a world's own name is one line
name_byte : (b : ℕ) → is_name_byte b ≡ true → b ≢ 10
unfolding is_name_byte
name_byte b passes is =
    let none : is_name_byte b ≡ false = ap is_name_byte is in
    cc

name_bytes : (bytes : List ℕ) → AllPass is_name_byte bytes → IsOneLine bytes
name_bytes [] all = All-nil (λ b. b ≢ 10)
name_bytes (b ∷ bytes) all =
    All-cons (λ b. b ≢ 10) b bytes (name_byte b (All-head (λ b. is_name_byte b ≡ true) b bytes all))
    (name_bytes bytes (All-tail (λ b. is_name_byte b ≡ true) b bytes all))

pub own_name_line : (name : Option (List ℕ)) → IsNamed name → IfSome name IsOneLine
own_name_line None own = tt
own_name_line (Some name) own = name_bytes name own.letters

-- ---- cuts

ends : (a b : List ℕ) → IsOneLine (a ++ 10 ∷ b) → ⊥
ends [] b one = All-head (λ b. b ≢ 10) 10 b one refl
ends (x ∷ a) b one = ends a b (All-tail (λ b. b ≢ 10) x (a ++ 10 ∷ b) one)

-- a line feed stands in what is no line
pub no_line : (bytes a b : List ℕ) → IsOneLine bytes → bytes ≡ a ++ 10 ∷ b → ⊥
no_line bytes a b one is = ends a b (All-same (λ b. b ≢ 10) (a ++ 10 ∷ b) bytes (sym is) one)

-- two cuts of the same bytes at their first line feed are one
pub record Same (a b x y : List ℕ) : Type 0 where
  pub front : a ≡ b
  pub rest : x ≡ y

pub one_cut : (a b x y : List ℕ) → IsOneLine a → IsOneLine b → a ++ 10 ∷ x ≡ b ++ 10 ∷ y → Same a b x y
one_cut [] [] x y p q e = record { front = refl; rest = cc }
one_cut [] (b ∷ bs) x y p q e = let is : b ≡ 10 = cc in absurd (All-head (λ b. b ≢ 10) b bs q is)
one_cut (a ∷ as1) [] x y p q e = let is : a ≡ 10 = cc in absurd (All-head (λ b. b ≢ 10) a as1 p is)
one_cut (a ∷ as1) (b ∷ bs) x y p q e =
    let tails : as1 ++ 10 ∷ x ≡ bs ++ 10 ∷ y = cc in
    let r = one_cut as1 bs x y (All-tail (λ b. b ≢ 10) a as1 p) (All-tail (λ b. b ≢ 10) b bs q) tails in
    let heads : a ≡ b = cc in
    record { front = ap (λ (z : ℕ). z ∷ as1) heads ∙ ap (λ (l : List ℕ). b ∷ l) r.front; rest = r.rest }

-- so are two cuts behind a word
pub same_behind : (word a b x y : List ℕ) → IsOneLine a → IsOneLine b → line_then (word ++ a) x ≡ line_then (word ++ b) y → Same a b x y
same_behind word a b x y p q e =
    let cut : a ++ 10 ∷ x ≡ b ++ 10 ∷ y =
    append_cancel_left word _ _ (sym (append_assoc word a (10 ∷ x)) ∙ e ∙ append_assoc word b (10 ∷ y)) in
    one_cut a b x y p q cut

-- behind a word at the front there is no line feed
pub not_behind : (bytes word rest : List ℕ) → bytes ≡ word ++ rest → IsOneLine rest → (line more : List ℕ) → bytes ≢ line_then (word ++ line) more
not_behind bytes word rest is one line more e =
    no_line rest line more one (append_cancel_left word _ _ (sym is ∙ e ∙ append_assoc word line (10 ∷ more)))

-- a fact of any value is one where it is None
pub none_anyway : {A : Type 0} {P : Type 0} → (found : Option A) → P → IfNone found P
none_anyway None fact = fact
none_anyway (Some x) fact = tt

-- ---- what lines tell

-- the line of a number tells one, and one rest
pub record SameNumber (m n : ℕ) (x y : List ℕ) : Type 0 where
  pub number : m ≡ n
  pub rest : x ≡ y

pub same_number : (bytes : List ℕ) (m n : ℕ) (x y : List ℕ) → m < 2 ^ 64 → n < 2 ^ 64 → bytes ≡ line_then (codes "number " ++ decimal m) x
    → bytes ≡ line_then (codes "number " ++ decimal n) y → SameNumber m n x y
same_number bytes m n x y fits too is also =
    let same = same_behind (codes "number ") (decimal m) (decimal n) x y (word_line (decimal m) (decimal_word m fits))
    (word_line (decimal n) (decimal_word n too)) (sym is ∙ also) in
    record { number = decimal_injective m n fits too same.front; rest = same.rest }

pub not_number : (bytes word rest : List ℕ) → IsOneLine word → bytes ≡ line_then (codes "number " ++ word) rest
    → ((n : ℕ) → n < 2 ^ 64 → word ≢ decimal n) → (n : ℕ) (more : List ℕ) → n < 2 ^ 64 → bytes ≢ line_then (codes "number " ++ decimal n) more
not_number bytes word rest one is none n more fits e =
    none n fits (same_behind (codes "number ") word (decimal n) rest more one (word_line (decimal n) (decimal_word n fits)) (sym is ∙ e)).front

-- what stands behind the first of the last lines
pub behind_world : (bytes line rest world header : List ℕ) → IsOneLine line → bytes ≡ line_then (codes "world " ++ line) rest
    → AreLast bytes world header → Same line world rest (line_then header [])
behind_world bytes line rest world header one is last =
    same_behind (codes "world ") line world rest (line_then header []) one last.world_line (sym is ∙ last.text)

pub last_ends : (bytes line rest second end world header : List ℕ) → IsOneLine line → bytes ≡ line_then (codes "world " ++ line) rest
    → IsOneLine second → rest ≡ line_then second end → AreLast bytes world header → end ≡ []
last_ends bytes line rest second end world header one is two here last =
    (one_cut second header end [] two last.header_line (sym here ∙ (behind_world bytes line rest world header one is last).rest)).rest

-- the last lines tell one world and one header
pub same_last : (bytes v g w h : List ℕ) → AreLast bytes v g → AreLast bytes w h → Same v w g h
same_last bytes v g w h s t =
    let first = behind_world bytes v (line_then g []) w h s.world_line s.text t in
    record { front = first.front; rest = (one_cut g h [] [] s.header_line t.header_line first.rest).front }

-- what stands behind the line of the number, as it was read
pub behind_number : (bytes : List ℕ) (m : ℕ) (rest : List ℕ) → m < 2 ^ 64 → bytes ≡ line_then (codes "number " ++ decimal m) rest
    → (name : Option (List ℕ)) (n : ℕ) (world header : List ℕ) → Tells bytes name n world header → rest ≡ name_then name (last_text world header)
behind_number bytes m rest fits is name n world header t =
    (same_number bytes m n rest (name_then name (last_text world header)) fits t.fits is t.text).rest

pub no_first : (bytes : List ℕ) (m : ℕ) (rest : List ℕ) → m < 2 ^ 64 → bytes ≡ line_then (codes "number " ++ decimal m) rest
    → ((world header : List ℕ) → AreLast rest world header → ⊥) → (n : ℕ) (world header : List ℕ) → Tells bytes None n world header → ⊥
no_first bytes m rest fits is none n world header t =
    none world header (record {
      text = behind_number bytes m rest fits is None n world header t;
      world_line = t.world_line;
      header_line = t.header_line;
    })

pub no_name : (bytes : List ℕ) (m : ℕ) (rest : List ℕ) → m < 2 ^ 64 → bytes ≡ line_then (codes "number " ++ decimal m) rest
    → ((line more : List ℕ) → rest ≢ line_then (codes "name " ++ line) more) → (name : List ℕ) (n : ℕ) (world header : List ℕ)
    → Tells bytes (Some name) n world header → ⊥
no_name bytes m rest fits is none name n world header t =
    none name (last_text world header) (behind_number bytes m rest fits is (Some name) n world header t)

pub no_second : (bytes : List ℕ) (m : ℕ) (rest line more : List ℕ) → m < 2 ^ 64 → bytes ≡ line_then (codes "number " ++ decimal m) rest
    → IsOneLine line → rest ≡ line_then (codes "name " ++ line) more → ((world header : List ℕ) → AreLast more world header → ⊥)
    → (name : List ℕ) (n : ℕ) (world header : List ℕ) → Tells bytes (Some name) n world header → ⊥
no_second bytes m rest line more fits is one here none name n world header t =
    let told = behind_number bytes m rest fits is (Some name) n world header t in
    none world header (record {
      text = (same_behind (codes "name ") line name more (last_text world header) one t.name_line (sym here ∙ told)).rest;
      world_line = t.world_line;
      header_line = t.header_line;
    })

-- lines tell one name or none, one number, one world and one header
pub record SameTold (a b : Option (List ℕ)) (m n : ℕ) (v w g h : List ℕ) : Type 0 where
  pub name : a ≡ b
  pub number : m ≡ n
  pub world : v ≡ w
  pub header : g ≡ h

last_of : (bytes : List ℕ) (name : Option (List ℕ)) (n : ℕ) (world header : List ℕ) → Tells bytes name n world header
    → AreLast (last_text world header) world header
last_of bytes name n world header t = record { text = refl; world_line = t.world_line; header_line = t.header_line }

versions_differ : codes "escrow site 1" ≡ codes "escrow site 2" → ⊥
versions_differ is =
    let at : slice_index (codes "escrow site 1") 12 ≡ slice_index (codes "escrow site 2") 12 = ap (λ (l : List ℕ). slice_index l 12) is in
    let letters : ◌≡◌ {A = ℕ} 49 50 = at in
    absurd (omega (arith, letters))

same_told : (bytes : List ℕ) (a b : Option (List ℕ)) (m n : ℕ) (v w g h : List ℕ) → version_line a ≡ version_line b → Tells bytes a m v g
    → Tells bytes b n w h → SameTold a b m n v w g h
same_told bytes None None m n v w g h e s t =
    let first = same_number bytes m n (last_text v g) (last_text w h) s.fits t.fits s.text t.text in
    let last : AreLast (last_text v g) w h = record { text = first.rest; world_line = t.world_line; header_line = t.header_line } in
    let same = same_last (last_text v g) v g w h (last_of bytes None m v g s) last in
    record { name = refl; number = first.number; world = same.front; header = same.rest }
same_told bytes (Some a) (Some b) m n v w g h e s t =
    let first = same_number bytes m n (name_then (Some a) (last_text v g)) (name_then (Some b) (last_text w h)) s.fits t.fits s.text t.text in
    let named = same_behind (codes "name ") a b (last_text v g) (last_text w h) s.name_line t.name_line first.rest in
    let last : AreLast (last_text v g) w h = record { text = named.rest; world_line = t.world_line; header_line = t.header_line } in
    let same = same_last (last_text v g) v g w h (last_of bytes (Some a) m v g s) last in
    record { name = ap (λ (l : List ℕ). Some l) named.front; number = first.number; world = same.front; header = same.rest }
same_told bytes None (Some b) m n v w g h e s t = absurd (versions_differ e)
same_told bytes (Some a) None m n v w g h e s t = absurd (versions_differ (sym e))

version_is_line : (name : Option (List ℕ)) → IsOneLine (version_line name)
version_is_line None = by_test (codes "escrow site 1") refl
version_is_line (Some name) = by_test (codes "escrow site 2") refl

pub same_lines : (text : List ℕ) (a b : Option (List ℕ)) (m n : ℕ) (v w g h : List ℕ) → TellsLines text a m v g → TellsLines text b n w h
    → SameTold a b m n v w g h
same_lines text a b m n v w g h s t =
    let same = one_cut (version_line a) (version_line b) s.rest t.rest (version_is_line a) (version_is_line b) (sym s.version ∙ t.version) in
    let P : List ℕ → Type 0 = λ l. Tells l a m v g in
    same_told t.rest a b m n v w g h same.front (subst P same.rest s.lines) t.lines

-- ---- versions

-- what lines behind the line of their version tell
pub lines_behind : (text line rest : List ℕ) (name : Option (List ℕ)) (n : ℕ) (world header : List ℕ) → text ≡ line_then line rest
    → version_line name ≡ line → Tells rest name n world header → TellsLines text name n world header
lines_behind text line rest name n world header is version lines = record {
  rest = rest;
  version = is ∙ ap (λ (l : List ℕ). line_then l rest) (sym version);
  lines = lines;
}

rest_behind : (text line rest : List ℕ) (name : Option (List ℕ)) (n : ℕ) (world header : List ℕ) → text ≡ line_then line rest
    → IsOneLine line → (l : TellsLines text name n world header) → Same line (version_line name) rest l.rest
rest_behind text line rest name n world header is one l =
    one_cut line (version_line name) rest l.rest one (version_is_line name) (sym is ∙ l.version)

first_none : (text rest : List ℕ) → text ≡ line_then (codes "escrow site 1") rest
    → ((n : ℕ) (world header : List ℕ) → Tells rest None n world header → ⊥) → (name : Option (List ℕ)) (n : ℕ) (world header : List ℕ)
    → TellsLines text name n world header → ⊥
first_none text rest is none None n world header l =
    let same = rest_behind text (codes "escrow site 1") rest None n world header is (version_is_line None) l in
    none n world header (rw same.rest l.lines)
first_none text rest is none (Some name) n world header l =
    versions_differ (rest_behind text (codes "escrow site 1") rest (Some name) n world header is (version_is_line None) l).front

second_none : (text rest : List ℕ) → text ≡ line_then (codes "escrow site 2") rest
    → ((name : List ℕ) (n : ℕ) (world header : List ℕ) → Tells rest (Some name) n world header → ⊥) → (name : Option (List ℕ)) (n : ℕ)
    (world header : List ℕ) → TellsLines text name n world header → ⊥
second_none text rest is none None n world header l =
    versions_differ (sym (rest_behind text (codes "escrow site 2") rest None n world header is (version_is_line (Some [])) l).front)
second_none text rest is none (Some name) n world header l =
    let same = rest_behind text (codes "escrow site 2") rest (Some name) n world header is (version_is_line (Some [])) l in
    none name n world header (rw same.rest l.lines)

pub other_first : (text rest : List ℕ) → text ≡ line_then (codes "escrow site 1") rest
    → ((n : ℕ) (world header : List ℕ) → Tells rest None n world header → ⊥) → HasOtherLines text
other_first text rest is none = record {
  line = codes "escrow site 1";
  rest = rest;
  version = inl refl;
  first = is;
  none = first_none text rest is none;
}

pub other_second : (text rest : List ℕ) → text ≡ line_then (codes "escrow site 2") rest
    → ((name : List ℕ) (n : ℕ) (world header : List ℕ) → Tells rest (Some name) n world header → ⊥) → HasOtherLines text
other_second text rest is none = record {
  line = codes "escrow site 2";
  rest = rest;
  version = inr refl;
  first = is;
  none = second_none text rest is none;
}

pub other_version : (text : List ℕ) → ((rest : List ℕ) → text ≢ line_then (codes "escrow site 1") rest)
    → ((rest : List ℕ) → text ≢ line_then (codes "escrow site 2") rest) → HasOtherVersion text
other_version text first second line rest (inl same) is = first rest (is ∙ ap (λ (l : List ℕ). line_then l rest) same)
other_version text first second line rest (inr same) is = second rest (is ∙ ap (λ (l : List ℕ). line_then l rest) same)

-- lines that were read, or the fault that they are others
pub told_ok : {A : Type 0} (read : Option A) (told : Result A IdentityFault) → MatchOption read (told ≡ Err NoIdentity) (λ t. told ≡ Ok t)
    → (P : A → Type 0) → IfSome read P → IfOk told P
told_ok None (Ok x) is P some = absurd cc
told_ok None (Err fault) is P some = tt
told_ok (Some t) (Ok x) is P some =
    let same : t ≡ x = cc in
    subst P same some
told_ok (Some t) (Err fault) is P some = tt

pub told_err : {A : Type 0} (read : Option A) (told : Result A IdentityFault) → MatchOption read (told ≡ Err NoIdentity) (λ t. told ≡ Ok t)
    → (P : IdentityFault → Type 0) → IfNone read (P NoIdentity) → IfErr told P
told_err None (Ok x) is P none = tt
told_err None (Err fault) is P none =
    let same : NoIdentity ≡ fault = cc in
    subst P same none
told_err (Some t) (Ok x) is P none = tt
told_err (Some t) (Err fault) is P none = absurd cc

pub none_then : {A P Q : Type 0} (read : Option A) → IfNone read P → (P → Q) → IfNone read Q
none_then None fact then = then fact
none_then (Some x) fact then = tt
