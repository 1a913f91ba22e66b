-- What the words of a line say, and why one is refused.
use Rattle.std.specs.Prelude.{◌==◌, ◌||◌, ℕ, pos, List, [], ◌∷◌, drop, Option, Some, None, Result, Ok, Err, codes, if◌then◌else◌}
use Rattle.ids_core.specs.declared.limits.TheConstants.{MOST_CENTRES, MOST_DELTA, MOST_NUMBER}
use Rattle.ids_core.specs.declared.object.ObjectId.{ObjectId}
use Rattle.ids_core.specs.declared.object.Sort.TheVariants.{Counter}
use Rattle.script_core.specs.Steps.{holders_of}
use Rattle.script_core.specs.declared.script.Header.{Header}
use Rattle.script_reader.specs.declared.fault.Cause.{Cause}
use Rattle.script_reader.specs.declared.fault.Cause.TheVariants as cause
use Rattle.script_reader.specs.declared.form.Part.{Part}
use Rattle.script_reader.specs.declared.form.Part.TheVariants.{Fixed, Client, Holder, OtherHolder, Centre, Other, Third, Centres, Stable, Count, Commit, Delta, Object, Summand, Bounded, Amount, Key, Name}
use Rattle.script_reader.specs.declared.said.Said.{Said}
use Rattle.script_reader.specs.Numbers.{number_in, delta_in, is_number}
use Rattle.script_reader.specs.Names.{is_name, object_named}
use Rattle.script_reader.specs.Shares.{bounded_in, summand_in}

-- what stands in place of what no word says
abbrev pub unsaid : Said
unsaid = record {
  client = 1;
  share = record { name = codes "a"; holder = 1; holders = 1 };
  to = 0;
  centre = 1;
  other = 0;
  third = 0;
  n = 1;
  k = 1;
  count = 1;
  number = 1;
  amount = 1;
  delta = pos 0;
  object = record { sort = Counter; name = codes "a" };
  summand = record { sort = Counter; name = codes "a" };
  key = codes "a";
  word = codes "a";
}

-- what is said with this in its place, or why not
abbrev pub with_said : {X : Type 0} → (X → Said) → Result X Cause → Result Said Cause
with_said put (Ok x) = Ok (put x)
with_said put (Err why) = Err why

-- a number whose range the header has to say: where no header stands yet, it says nothing but a number
abbrev pub unless_early : Said → Option Header → List ℕ → (Header → Result Said Cause) → Result Said Cause
unless_early said None text within = if is_number text then Ok said else Err cause.Number
unless_early said (Some header) text within = within header

-- a name
abbrev pub with_name : (List ℕ → Said) → List ℕ → Result Said Cause
with_name put text = if is_name text then Ok (put text) else Err cause.Name

-- an object
abbrev pub with_object : (ObjectId → Said) → Option ObjectId → Result Said Cause
with_object put (Some object) = Ok (put object)
with_object put None = Err cause.Name

-- what is said with a client that is one of so many holders
abbrev pub with_holder : Said → ℕ → ℕ → Said
with_holder said holders holder = record said { client = holder; share = record said.share { holder = holder; holders = holders } }

-- what is said with a bounded counter
abbrev pub with_counter : Said → List ℕ → Said
with_counter said name = record said { share = record said.share { name = name } }

-- another holder than the one before
abbrev pub to_said : Said → Result ℕ Cause → Result Said Cause
to_said said (Ok to) = if to == said.share.holder then Err cause.Range else Ok (record said { to = to })
to_said said (Err why) = Err why

-- another centre than the one before
abbrev pub other_said : Said → Result ℕ Cause → Result Said Cause
other_said said (Ok centre) = if centre == said.centre then Err cause.Range else Ok (record said { other = centre })
other_said said (Err why) = Err why

-- another centre than the two before
abbrev pub third_said : Said → Result ℕ Cause → Result Said Cause
third_said said (Ok centre) = if centre == said.centre || centre == said.other then Err cause.Range else Ok (record said { third = centre })
third_said said (Err why) = Err why

-- what is said when a word stands in the place of a part, behind the words before it
unfoldable pub said_word : Option Header → Part → List ℕ → Said → Result Said Cause
said_word header (Fixed own) text said = Ok said
said_word header Client text said = unless_early said header (drop 1 text) (λ h. with_said (λ client. record said { client = client }) (number_in 1 h.clients (drop 1 text)))
said_word header Holder text said = unless_early said header (drop 1 text) (λ h. with_said (with_holder said (holders_of h.clients)) (number_in 1 (holders_of h.clients) (drop 1 text)))
said_word header OtherHolder text said = unless_early said header text (λ h. to_said said (number_in 1 said.share.holders text))
said_word header Centre text said = unless_early said header text (λ h. with_said (λ centre. record said { centre = centre }) (number_in 1 h.n text))
said_word header Other text said = unless_early said header text (λ h. other_said said (number_in 1 h.n text))
said_word header Third text said = unless_early said header text (λ h. third_said said (number_in 1 h.n text))
said_word header Centres text said = with_said (λ n. record said { n = n; k = 1 }) (number_in 1 MOST_CENTRES text)
said_word header Stable text said = with_said (λ k. record said { k = k }) (number_in 1 said.n text)
said_word header (Count least most) text said = with_said (λ count. record said { count = count }) (number_in least most text)
said_word header Commit text said = with_said (λ number. record said { number = number }) (number_in 1 MOST_NUMBER text)
said_word header Delta text said = with_said (λ delta. record said { delta = delta }) (delta_in text)
said_word header Object text said = with_object (λ object. record said { object = object }) (object_named text)
said_word header Summand text said = with_said (λ object. record said { summand = object }) (summand_in text)
said_word header Bounded text said = with_said (with_counter said) (bounded_in text)
said_word header Amount text said = with_said (λ amount. record said { amount = amount }) (number_in 1 MOST_DELTA text)
said_word header Key text said = with_name (λ key. record said { key = key }) text
said_word header Name text said = with_name (λ word. record said { word = word }) text

-- from left to right: the first word that is refused decides
abbrev pub said_words : Option Header → List Part → List (List ℕ) → Said → Result Said Cause
said_words header [] texts said = Ok said
said_words header (part ∷ parts) [] said = Ok said
said_words header (part ∷ parts) (text ∷ texts) said = elim (said_word header part text said) [ Ok more ↦ said_words header parts texts more | Err why ↦ Err why ]
