mod Concat
