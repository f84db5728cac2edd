mod Noting
