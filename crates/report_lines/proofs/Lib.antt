mod FileWords
