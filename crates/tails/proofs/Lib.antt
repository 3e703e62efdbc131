mod TailLaws
