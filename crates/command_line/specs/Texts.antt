-- The texts that the program answers words with.
use Rattle.std.specs.Prelude.{ℕ, List, ◌++◌, codes}

-- the line for words of no form
abbrev pub usage_text : List ℕ
usage_text = codes "usage: swift_sim run|serial [--trail], journal [DIR], recover DIR or make|load NUM\n"

-- the line for `--version`
abbrev pub version_text : List ℕ
version_text = codes "swift_sim 0.1.0\n"

-- what the program does
abbrev pub about_text : List ℕ
about_text = codes "swift_sim plays a script of a geo-replicated object store and prints what its clients see. Clients\n"
    ++ codes "commit at once, keep working while a data centre is down, move to another one, and never see an\n"
    ++ codes "effect before its cause.\n"

-- the forms of the words
abbrev pub forms_text : List ℕ
forms_text = codes "\nusage:\n"
    ++ codes "  swift_sim serial < SCRIPT          plays the script on one thread and prints what its clients see\n"
    ++ codes "  swift_sim serial --trail < SCRIPT  and then prints each centre's requests and answers in order, and\n"
    ++ codes "                                     the transactions behind each value that was read\n"
    ++ codes "  swift_sim run < SCRIPT             plays the script with threads in its phases\n"
    ++ codes "  swift_sim run --trail < SCRIPT     and then prints the trails, as serial --trail does\n"
    ++ codes "  swift_sim journal < SCRIPT         plays the script and prints what each centre's journal holds\n"
    ++ codes "  swift_sim journal DIR < SCRIPT     and writes each centre's journal to new files in the folder DIR\n"
    ++ codes "  swift_sim recover DIR              opens the journals in DIR and prints what they hold\n"
    ++ codes "  swift_sim make NUM                 prints a script generated from the seed NUM, 1 to 999999999\n"
    ++ codes "  swift_sim load NUM                 plays that script with threads and prints its last reads\n"
    ++ codes "  swift_sim .. --quiet               shows no progress on the terminal\n"
    ++ codes "  swift_sim --help                   prints this text\n"
    ++ codes "  swift_sim --version                prints the version\n"

-- one example
abbrev pub example_text : List ℕ
example_text = codes "\nexample: this script\n"
    ++ codes "  centres 1 k 1\n"
    ++ codes "  clients 1\n"
    ++ codes "  c1 connect 1\n"
    ++ codes "  c1 begin\n"
    ++ codes "  c1 add s.cart bread\n"
    ++ codes "  c1 read s.cart\n"
    ++ codes "  c1 commit\n"
    ++ codes "prints\n"
    ++ codes "  c1 at 1\n"
    ++ codes "  c1 read s.cart {bread}\n"
    ++ codes "  c1 commit 1\n"

-- the statuses
abbrev pub statuses_text : List ℕ
statuses_text = codes "\nexit status:\n"
    ++ codes "  0  success\n"
    ++ codes "  2  invalid command line\n"
    ++ codes "  3  invalid script: the output has the first bad line's number and the reason\n"
    ++ codes "  4  reading failed\n"
    ++ codes "  5  writing failed\n"
    ++ codes "  6  out of memory\n"
    ++ codes "  7  a journal's files are bad: standard error names the file and the place\n"
    ++ codes "  8  a journal's files were not made, read or written\n"
    ++ codes "Unless it is 0, standard error says more.\n"

-- the text for `--help`
abbrev pub help_text : List ℕ
help_text = about_text ++ forms_text ++ example_text ++ statuses_text
    ++ codes "\ndocs/script.md explains scripts; examples/ has some.\n"
